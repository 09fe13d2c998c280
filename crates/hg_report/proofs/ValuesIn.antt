-- The values of some fields, one by one.
use Rattle.std.proofs.Common.{◌≡◌, ◌<◌, ◌+◌, ◌∙◌, ℕ, zero, suc, ℤ, List, [], ◌∷◌, ◌++◌, length, take, map, get_or, set, false, ap, sym, refl, add-one, arith}
use Rattle.std.specs.List.{list_any}
use Rattle.std.proofs.Math.Seq.{take-suc-set}
use Rattle.std.proofs.lemmas.List.{map-append}
use Rattle.hg_base.specs.declared.value.Column.{Column}
use Rattle.hg_base.specs.declared.value.Column.TheVariants as columns
use Rattle.hg_base.specs.declared.value.Value.{Value}
use Rattle.hg_base.specs.declared.value.Value.TheVariants.{Number}
use Rattle.hg_base.specs.Text.{Field}
use Rattle.hg_base.specs.Number.{integer_of}
use Rattle.hg_report.specs.Fields.{holds_text, integer_value, nth, value_in, values_in}

pub values_none : (fields : List Field) (i : ℕ) → [] ≡ values_in fields i []
unfolding values_in
values_none fields i = refl

module _ (fields : List Field) where
  values_suc : (i : ℕ) (kinds : List Column) (k : ℕ) (d : Column) → k < length kinds
      → values_in fields i (take (suc k) kinds) ≡ values_in fields i (take k kinds) ++ value_in (get_or kinds k d) (nth fields (i + k)) ∷ []
  unfolding values_in
  values_suc i [] k d h = absurd (omega (arith, h))
  values_suc i (kind ∷ kinds) zero d h = let here : i + 0 ≡ i = omega arith in ap (λ n. value_in kind (nth fields n) ∷ []) (sym here)
  values_suc i (kind ∷ kinds) (suc k) d h =
      let there : (i + 1) + k ≡ i + suc k = omega arith in
      ap (λ vs. value_in kind (nth fields i) ∷ vs)
      (values_suc (i + 1) kinds k d (omega (arith, h)) ∙ ap (λ n. values_in fields (i + 1) (take k kinds) ++ value_in (get_or kinds k d) (nth fields n) ∷ []) there)

  -- one more value
  pub values_more : (i : ℕ) (kinds : List Column) (k : ℕ) (d : Column) (before now : List Value) (value : Value) → k < length kinds → before ≡ values_in fields i (take k kinds) →
      value ≡ value_in (get_or kinds k d) (nth fields (i + k))
      → now ≡ before ++ value ∷ [] → now ≡ values_in fields i (take (k + 1) kinds)
  values_more i kinds k d before now value h e f g =
      g ∙ ap (λ (vs : List Value). vs ++ value ∷ []) e ∙ ap (λ v. values_in fields i (take k kinds) ++ v ∷ []) f ∙
      sym (ap (λ n. values_in fields i (take n kinds)) (add-one k) ∙ values_suc i kinds k d h)

  number_at : (kinds : List Column) (k : ℕ) → list_any holds_text kinds ≡ false → k < length kinds → get_or kinds k columns.Number ≡ columns.Number
  number_at [] k h less = refl
  number_at (columns.Number ∷ kinds) zero h less = refl
  number_at (columns.Number ∷ kinds) (suc k) h less = number_at kinds k h (omega (arith, less))
  number_at (columns.Text ∷ kinds) k h less = absurd (let bad : ⊥ = cc h in bad)

  -- one more number
  pub numbers_more : (i : ℕ) (kinds : List Column) (k : ℕ) (numbers : List ℤ) (n : ℤ) → list_any holds_text kinds ≡ false → k < length kinds → k < length numbers →
      map Number (take k numbers) ≡ values_in fields i (take k kinds)
      → n ≡ integer_value (integer_of (nth fields (i + k))) → map Number (take (k + 1) (set numbers k n)) ≡ values_in fields i (take (k + 1) kinds)
  numbers_more i kinds k numbers n alone h less e f =
      values_more i kinds k columns.Number (map Number (take k numbers)) (map Number (take (k + 1) (set numbers k n))) (Number n) h e
      (ap Number f ∙ ap (λ kind. value_in kind (nth fields (i + k))) (sym (number_at kinds k alone h)))
      (ap (λ j. map Number (take j (set numbers k n))) (add-one k) ∙ ap (map Number) (take-suc-set numbers k n less) ∙ map-append Number (take k numbers) (n ∷ []))
