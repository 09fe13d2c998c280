use Rattle.std.proofs.Common.{subst, sym, Some}
use Rattle.hg_known.specs.Written.{IsNextRid}
use Rattle.hg_known.proofs.SlotOrder.{over_none, over_found}
use Rattle.hg_known.proofs.writes.Writes.next_rid.Goals as goal

pub returns-in_err-slot-clause-next : goal.returns-in_err-slot-clause-next
returns-in_err-slot-clause-next c =
    let none = over_none c.self.inside.images c.args.rid c.args.number c.range.result (c.range.ensures.in_range tt) c.in_err-slot.ensures.steps.0 in
    rw (c.from_residual.ensures, ← c.self.view_is) none

pub returns-clause-next : goal.returns-clause-next
returns-clause-next c =
    subst (λ r. IsNextRid c.args.self.now c.args.rid c.args.number (Some r)) (sym c.record_at.ensures.same)
    (subst (λ es. IsNextRid es c.args.rid c.args.number (Some c.in_ok-slot.slot.now.rid)) c.self.view_is
    (over_found c.self.inside.images c.args.rid c.args.number c.range.result _ _ _ (c.range.ensures.in_range tt) c.in_ok-slot.ensures.steps))
