-- Tables by distinct names, and one more.
use Rattle.std.proofs.Common.{◌≡◌, ◌≤◌, ℕ, List, [], ◌∷◌, ◌++◌, length, map, cond, not, true, false, Some, None, is_some, option_map, nat_lt, inl, inr, bytes_eq, arith}
use Rattle.std.proofs.lemmas.Bool.{cases_Bool, and_parts as and-parts}
use Rattle.std.proofs.lemmas.Bool.Decides.{nat_tests}
use Rattle.std.specs.List.{AllByRecursion, IsDistinct, position_or_len}
use Rattle.hg_base.specs.Script.{Declaration}
use Rattle.hg_script.specs.Fields.{Field}
use Rattle.hg_script.specs.Draft.{has_name, is_fresh, table_at}

abbrev names : List Declaration → List Field
names tables = map (λ d. d.name) tables

each-name : (P : Field → Type 0) (tables : List Declaration) (d : Declaration) → AllByRecursion P (names tables) → P d.name → AllByRecursion P (names (tables ++ d ∷ []))
each-name P [] d h k = (k, tt)
each-name P (t ∷ ts) d h k = (h.0, each-name P ts d h.1 k)

distinct-one : (tables : List Declaration) (d : Declaration) → IsDistinct bytes_eq (names tables) → length tables ≤ position_or_len (has_name d.name) tables
    → IsDistinct bytes_eq (names (tables ++ d ∷ []))
unfolding IsDistinct
distinct-one [] d h k = (tt, tt)
distinct-one (t ∷ ts) d h k = elim (cases_Bool (has_name d.name t)) [
  | inl same ↦ absurd (let m = rw same at k in omega (arith, m))
  | inr other ↦ let m = rw other at k in (each-name (λ y. bytes_eq t.name y ≡ false) ts d h.0 other, distinct-one ts d h.1 (omega (arith, m)))
]

pub none-twice : IsDistinct bytes_eq (names [])
unfolding IsDistinct
none-twice = tt

past : (n : ℕ) (m : ℕ) → not (is_some (option_map table_at (cond (nat_lt n m) (Some n) None))) ≡ true → m ≤ n
past n m h = elim (cases_Bool (nat_lt n m)) [
  | inl less ↦ absurd (let k = rw less at h in let bad : ⊥ = cc k in bad)
  | inr not_less ↦ grind (arith, nat_tests, not_less)
]

-- a name that no table has
pub distinct-more : (tables : List Declaration) (d : Declaration) → IsDistinct bytes_eq (names tables) → is_fresh tables d.name ≡ true
    → IsDistinct bytes_eq (names (tables ++ d ∷ []))
distinct-more tables d h k = distinct-one tables d h (past (position_or_len (has_name d.name) tables) (length tables) (and-parts _ _ k).1)
