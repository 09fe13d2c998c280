-- Numbers and values are read as they were written.
use Rattle.std.proofs.Common.{◌≡◌, ◌<◌, ◌^◌, ◌∙◌, ℕ, suc, ℤ, pos, negsuc, List, [], ◌∷◌, map, get_or, false, ◌==◌, Some, refl, ap, arith}
use Rattle.std.specs.Prelude.{decimal}
use Rattle.std.specs.Fmt.{signed_decimal}
use Rattle.std.proofs.lemmas.Bool.{lt-ltb, le-leb, eqb-true}
use Rattle.std.proofs.lemmas.Bool.Decides.{nat_tests}
use lib.Signed.{mag}
use Rattle.hg_base.specs.declared.limits.TheConstants.{MOST_TEXT_BYTES}
use Rattle.hg_base.specs.declared.value.Column.{Column}
use Rattle.hg_base.specs.declared.value.Column.TheVariants as column
use Rattle.hg_base.specs.declared.value.Value.{Value}
use Rattle.hg_base.specs.declared.value.Value.TheVariants.{Number, Text}
use Rattle.hg_base.specs.Lists.{Each}
use Rattle.hg_base.specs.Text.{value_field}
use Rattle.hg_base.specs.Values.{FitsColumns, FitsValue, kind_of}
use Rattle.hg_base.proofs.ListFacts.{cases}
use Rattle.hg_base.proofs.TextNumbers.{first_digit}
use Rattle.hg_base.specs.declared.number.Natural.TheVariants as n
use Rattle.hg_base.specs.declared.number.Integer.TheVariants as signed
use Rattle.hg_script.specs.declared.values.Values.TheVariants.{Are}
use Rattle.hg_base.specs.Number.{natural_of, integer_of}
use Rattle.hg_script.specs.Draft.{before, numbers_in, number_value, row_in, value_in, values_by}
use Rattle.hg_base.proofs.Decimal.{back}

pub natural_read : (k : ℕ) → k < 2 ^ 64 → natural_of (decimal k) ≡ n.Is k
natural_read k h = back (decimal k) k h refl

pub integer_read : (v : ℤ) → mag v < 2 ^ 63 → integer_of (signed_decimal v) ≡ signed.Is v
integer_read (pos k) h =
    let first = first_digit k (omega arith) in
    let plain : (get_or (decimal k) 0 0 == 45) ≡ false = grind (arith, nat_tests, first) in
    rw (plain, natural_read k (omega arith), lt-ltb k (2 ^ 63) h) refl
integer_read (negsuc k) h =
    let some : (suc k == 0) ≡ false = grind (arith, nat_tests) in
    rw (natural_read (suc k) (omega arith), some, le-leb (suc k) (2 ^ 63) (omega arith)) refl

-- ---- rows

value_read : (v : Value) → FitsValue v → value_in (kind_of v) (value_field v) ≡ Some v
value_read (Number v) h = ap number_value (integer_read v h)
value_read (Text t) h = rw (le-leb _ MOST_TEXT_BYTES h) refl

row_read : (row : List Value) → Each FitsValue row → row_in (map kind_of row) (map value_field row) ≡ Some row
row_read [] h = refl
row_read (v ∷ vs) h = rw (value_read v h.0, row_read vs h.1) refl

-- each column holds numbers
abbrev pub AreNumbers : List Column → Type 0
AreNumbers kinds = Each (λ kind. kind ≡ column.Number) kinds

number_read : (v : Value) (vs : List Value) → FitsValue v → kind_of v ≡ column.Number → before (integer_of (value_field v)) (Are vs) ≡ Are (v ∷ vs)
number_read (Number v) vs h k = rw (integer_read v h) refl
number_read (Text t) vs h k = absurd (let bad : ⊥ = cc k in bad)

numbers_read : (row : List Value) → Each FitsValue row → AreNumbers (map kind_of row) → numbers_in (map value_field row) ≡ Are row
numbers_read [] h k = refl
numbers_read (v ∷ vs) h k = ap (before (integer_of (value_field v))) (numbers_read vs h.1 k.1) ∙ number_read v vs h.0 k.0

-- the fields of a row that fits its columns, which are of numbers alone in version 1
pub values_read : (version : ℕ) (kinds : List Column) (row : List Value) → FitsColumns kinds row → (version ≡ 1 → AreNumbers kinds) → values_by version kinds (map value_field row) ≡ Are row
values_read version kinds row h numbers = cases (version == 1)
    (λ e. let one : version ≡ 1 = eqb-true version 1 e in rw (e, numbers_read row h.1 (rw h.0 (numbers one))) refl)
    (λ e. let typed : row_in kinds (map value_field row) ≡ Some row = rw (← h.0) (row_read row h.1) in rw (e, typed) refl)
