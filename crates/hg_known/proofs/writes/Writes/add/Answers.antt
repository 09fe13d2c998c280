use Rattle.std.proofs.Common.{◌∙◌, ap, cond, Some}
use Rattle.std.specs.Prelude.{is_none, ◌&&◌, ◌==◌}
use Rattle.hg_base.specs.History.{same_rid}
use Rattle.hg_known.specs.Written.{slot, image_at}
use Rattle.hg_known.proofs.SlotOrder.{put, looked_up, is_none_of}
use Rattle.hg_known.proofs.writes.Writes.add.Goals as goal

pub returns-clause-first : goal.returns-clause-first
returns-clause-first c =
    is_none_of c.in_ok-before.before c.is_none.result c.is_none.ensures
    ∙ ap is_none (c.in_ok-before.ensures.old ∙ looked_up c.self.inside.images.entries (slot c.args.rid c.args.number) ∙ ap (λ es. image_at es c.args.rid c.args.number) c.self.view_is)

pub returns-clause-added : goal.returns-clause-added
returns-clause-added c =
    λ q n.
    put c.self.inside.images.entries c.insert.new.self.entries c.args.rid c.args.number (Some c.args.image) c.in_ok-before.ensures.updates.0 q n
    ∙ ap (λ es. cond (same_rid c.args.rid q && (c.args.number == n)) (Some c.args.image) (image_at es q n)) c.self.view_is
