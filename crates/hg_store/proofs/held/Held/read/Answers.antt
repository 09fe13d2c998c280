use Rattle.std.proofs.Common.{ap, ◌∙◌}
use Rattle.std.specs.Prelude.{unwrap_or}
use Rattle.hg_base.specs.History.{nothing}
use Rattle.hg_bucket.specs.BucketModel.{read_at}
use Rattle.hg_rule.specs.Holding.{held}
use Rattle.hg_store.proofs.Seeing.{read_kept}
use Rattle.hg_store.proofs.Boxing.{boxed_holds}
use Rattle.hg_store.proofs.held.Held.read.Goals as goal

pub returns-clause-shown : goal.returns-clause-shown
returns-clause-shown c v hold =
    let a = c.args in
    let h = (boxed_holds c.args.self.now c.deref.result.now c.deref.ensures hold) in
    ap (λ o. unwrap_or o nothing) (c.read.ensures ∙ ap (read_at a.own a.snapshot) (h.keeps.versions a.rid)) ∙ read_kept (hold.ordered a.rid).0 a.own a.snapshot (held v a.rid) (hold.ordered a.rid).1
