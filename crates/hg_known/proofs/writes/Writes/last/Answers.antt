use Rattle.std.proofs.Common.{subst, sym, Some, None}
use Rattle.hg_known.specs.Written.{IsLastAt}
use Rattle.hg_base.proofs.HistoryFacts.{same_rid_equal}
use Rattle.hg_known.proofs.SlotOrder.{none_up_to, last_entry, last_other, last_here, not_true, not_false}
use Rattle.hg_known.proofs.writes.Writes.last.Goals as goal

pub returns-in_err-slot : goal.returns-in_err-slot
returns-in_err-slot c =
    let none = none_up_to c.self.inside.images c.args.rid c.args.number c.range.result (c.range.ensures.in_range tt) c.in_err-slot.ensures.steps.0 in
    rw (c.from_residual.ensures, ← c.self.view_is) none

pub returns-then-ne : goal.returns-then-ne
returns-then-ne c =
    let last = last_entry c.self.inside.images c.args.rid c.args.number c.range.result _ _ _ (c.range.ensures.in_range tt) c.in_ok-slot.ensures.steps in
    subst (λ es. IsLastAt es c.args.rid c.args.number None) c.self.view_is
    (last_other c.self.inside.images c.args.rid c.args.number c.in_ok-slot.slot.now c.in_ok-slot.image.now last (not_true _ (sym c.if-ne.ensures)))

pub returns : goal.returns
returns c =
    let last = last_entry c.self.inside.images c.args.rid c.args.number c.range.result _ _ _ (c.range.ensures.in_range tt) c.in_ok-slot.ensures.steps in
    subst (λ es. IsLastAt es c.args.rid c.args.number (Some (c.in_ok-slot.slot.now.number, c.in_ok-slot.image.now))) c.self.view_is
    (last_here c.self.inside.images c.args.rid c.args.number c.in_ok-slot.slot.now c.in_ok-slot.image.now last
    (same_rid_equal c.in_ok-slot.slot.now.rid c.args.rid (not_false _ (sym c.if-ne.ensures))))
