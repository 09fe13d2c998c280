use Rattle.std.proofs.Common.{◌∙◌, ap, cond, None}
use Rattle.hg_known.specs.Owned.{spot, same_spot, own_at}
use Rattle.hg_known.proofs.SpotOrder.{dropped}
use Rattle.hg_known.proofs.own.Own.remove.Goals as goal

pub returns : goal.returns
returns c =
    λ j x r.
    let s = spot c.args.tx.session c.args.tx.number c.args.rid in
    dropped c.self.inside.images.entries c.remove.new.self.entries s c.remove.ensures.updates.0 (spot j x r) ∙ ap (λ es. cond (same_spot s (spot j x r)) None (own_at es j x r)) c.self.view_is
