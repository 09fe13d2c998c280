use Rattle.std.proofs.Common.{subst, sym, Some, None}
use Rattle.hg_known.specs.Owned.{IsNextAfter}
use Rattle.hg_known.proofs.SlotOrder.{not_true, not_false}
use Rattle.hg_known.proofs.SpotOrder.{over_none, over_other, over_found, over_entry, same_tx}
use Rattle.hg_known.proofs.own.Own.next_after.Goals as goal

pub returns-in_err-spot-clause-next : goal.returns-in_err-spot-clause-next
returns-in_err-spot-clause-next c =
    let none = over_none c.self.inside.images c.args.tx c.args.rid c.range.result (c.range.ensures.in_range tt) c.in_err-spot.ensures.steps.0 in
    rw (c.from_residual.ensures, ← c.self.view_is) none

pub returns-then-ne-clause-next : goal.returns-then-ne-clause-next
returns-then-ne-clause-next c =
    let first = over_entry c.self.inside.images (record { tx = c.args.tx; rid = c.args.rid }) c.range.result _ _ _ (c.range.ensures.in_range tt) c.in_ok-spot.ensures.steps in
    subst (λ es. IsNextAfter es c.args.tx.session c.args.tx.number c.args.rid None) c.self.view_is
    (over_other c.self.inside.images c.args.tx c.args.rid _ _ first (not_true _ (sym c.if-ne.ensures)))

pub returns-clause-next : goal.returns-clause-next
returns-clause-next c =
    let first = over_entry c.self.inside.images (record { tx = c.args.tx; rid = c.args.rid }) c.range.result _ _ _ (c.range.ensures.in_range tt) c.in_ok-spot.ensures.steps in
    subst (λ r. IsNextAfter c.args.self.now c.args.tx.session c.args.tx.number c.args.rid (Some r)) (sym c.record_at.ensures.same)
    (subst (λ es. IsNextAfter es c.args.tx.session c.args.tx.number c.args.rid (Some c.in_ok-spot.spot.now.rid)) c.self.view_is
    (over_found c.self.inside.images c.args.tx c.args.rid _ _ first (same_tx _ c.args.tx (not_false _ (sym c.if-ne.ensures)))))
