use Rattle.std.proofs.Common.{◌≡◌, ℕ, ◌≤◌, sym, ap, subst, refl, None, []}
use Rattle.std.specs.Prelude.{IfSome, option_map}
use Rattle.std.specs.BTreeMap.{get}
use Rattle.std.specs.Ordering.{nat_cmp}
use Rattle.std.specs.Map.{lookup}
use Rattle.std.specs.BTreeMap.{is_at}
use Rattle.hg_known.specs.Lines.{number_of, without_rest, IsRest}
use Rattle.hg_known.proofs.Rests.{rests_first}
use Rattle.hg_known.proofs.lines.Lines.reader.Goals as goal

pub invariant_of-result : goal.invariant_of-result
invariant_of-result c =
    let none : (j : ℕ) → get nat_cmp c.new.result j ≡ None = λ j. subst (λ es. lookup (is_at (nat_cmp j)) es ≡ None) (sym c.new.ensures.empty) refl in
    (λ j. ap (option_map without_rest) (none j), λ j. subst (IsRest j []) (sym (none j)) (rests_first j), λ j. subst (λ o. IfSome o (λ l. number_of l ≤ 0)) (sym (none j)) tt)
