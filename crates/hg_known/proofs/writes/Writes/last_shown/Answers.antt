use Rattle.std.proofs.Common.{◌≡◌, ◌≤◌, ◌∙◌, sym, subst, arith}
use Rattle.std.proofs.lemmas.Bool.Decides.{nat_tests}
use Rattle.hg_known.specs.Written.{IsOfHistory}
use Rattle.hg_known.proofs.SlotOrder.{key_at_most, no_key, other_table, this_key, newest, last_key}
use Rattle.hg_known.proofs.writes.Writes.last_shown.Goals as goal

pub returns-in_err-slot-clause-shown : goal.returns-in_err-slot-clause-shown
returns-in_err-slot-clause-shown c =
    λ h is.
    let small : c.args.at ≤ 18446744073709551615 = omega arith in
    let none = no_key c.self.inside.images c.args.table c.args.key 18446744073709551615 c.args.at c.range.result small (c.range.ensures.in_range tt) c.in_err-slot.ensures.steps.0 h
    (subst (IsOfHistory h) (sym c.self.view_is) is) in
    rw (c.from_residual.ensures) none

pub returns-then-ne-clause-shown : goal.returns-then-ne-clause-shown
returns-then-ne-clause-shown c =
    λ h is.
    let small : c.args.at ≤ 18446744073709551615 = omega arith in
    let last = last_key c.self.inside.images c.args.table c.args.key 18446744073709551615 c.range.result _ _ _ (c.range.ensures.in_range tt) c.in_ok-slot.ensures.steps in
    other_table c.self.inside.images c.args.table c.args.key 18446744073709551615 c.args.at _ _ small last (λ same. let k = c.if-ne.ensures in
    grind (arith, nat_tests, k, same)) h (subst (IsOfHistory h) (sym c.self.view_is) is)

pub returns-then-slot-at-clause-shown : goal.returns-then-slot-at-clause-shown
returns-then-slot-at-clause-shown c =
    λ h is.
    let small : c.args.at ≤ 18446744073709551615 = omega arith in
    let last = last_key c.self.inside.images c.args.table c.args.key 18446744073709551615 c.range.result _ _ _ (c.range.ensures.in_range tt) c.in_ok-slot.ensures.steps in
    let here = subst (IsOfHistory h) (sym c.self.view_is) is in
    let same : c.in_ok-slot.slot.now.rid.table.0 ≡ c.args.table.0 = let k = c.if-ne.ensures in grind (arith, nat_tests, k) in
    this_key c.self.inside.images c.args.table c.args.key 18446744073709551615 c.args.at _ _ _ small last same h here
    (c.as_ref.ensures.value ∙ newest c.self.inside.images c.args.table c.args.key 18446744073709551615 c.args.at _ _ small last same c.if-slot-at.true h here)

pub returns-clause-shown : goal.returns-clause-shown
returns-clause-shown c =
    λ h is.
    let small : c.args.at ≤ 18446744073709551615 = omega arith in
    let last = last_key c.self.inside.images c.args.table c.args.key 18446744073709551615 c.range.result _ _ _ (c.range.ensures.in_range tt) c.in_ok-slot.ensures.steps in
    this_key c.self.inside.images c.args.table c.args.key 18446744073709551615 c.args.at _ _ _ small last (let k = c.if-ne.ensures in
    grind (arith, nat_tests, k)) h (subst (IsOfHistory h) (sym c.self.view_is) is) (c.visible.ensures h is)

pub returns-then-slot-at-clause-within : goal.returns-then-slot-at-clause-within
returns-then-slot-at-clause-within c =
    let last = last_key c.self.inside.images c.args.table c.args.key 18446744073709551615 c.range.result _ _ _ (c.range.ensures.in_range tt) c.in_ok-slot.ensures.steps in
    key_at_most c.args.table c.in_ok-slot.slot.now c.args.key 18446744073709551615 last.within (let k = c.if-ne.ensures in grind (arith, nat_tests, k))

pub returns-clause-within : goal.returns-clause-within
returns-clause-within c =
    let last = last_key c.self.inside.images c.args.table c.args.key 18446744073709551615 c.range.result _ _ _ (c.range.ensures.in_range tt) c.in_ok-slot.ensures.steps in
    key_at_most c.args.table c.in_ok-slot.slot.now c.args.key 18446744073709551615 last.within (let k = c.if-ne.ensures in grind (arith, nat_tests, k))
