use Rattle.std.proofs.Common.{◌≡◌, sym, ◌∙◌, true, false}
use Rattle.std.proofs.lemmas.Bool.{true≢false}
use Rattle.hg_base.specs.Storage.{is_packed}
use Rattle.hg_base.proofs.Holding.{differ, differ_back}
use Rattle.hg_base.proofs.row.Row.same.Goals as goal

pub returns-in-true-false : goal.returns-in-true-false
returns-in-true-false c =
    let one : is_packed c.self.inside.storage ≡ true = sym c.in-true-false.ensures in
    let other : is_packed c.other.inside.storage ≡ false = sym c.in-true-false.ensures' in
    let no = differ c.self.inside.storage c.other.inside.storage one c.self.invariant.2 other in
    (λ e. absurd (true≢false (sym e)), λ e. absurd (no (c.self.view_is ∙ e ∙ sym c.other.view_is)))

pub returns-in-false-true : goal.returns-in-false-true
returns-in-false-true c =
    let one : is_packed c.self.inside.storage ≡ false = sym c.in-false-true.ensures in
    let other : is_packed c.other.inside.storage ≡ true = sym c.in-false-true.ensures' in
    let no = differ_back c.self.inside.storage c.other.inside.storage one other c.other.invariant.2 in
    (λ e. absurd (true≢false (sym e)), λ e. absurd (no (c.self.view_is ∙ e ∙ sym c.other.view_is)))
