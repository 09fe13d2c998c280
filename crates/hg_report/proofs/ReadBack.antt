-- A line's first record is guessed as that line, and so is each further one.
use Rattle.std.proofs.Common.{◌≡◌, ◌<◌, ◌+◌, ◌^◌, ◌∙◌, ℕ, suc, ℤ, pos, negsuc, List, [], ◌∷◌, length, take, map, get_or, false, ◌==◌, Some, refl, sym, ap, arith}
use Rattle.std.proofs.lemmas.List.{take_all}
use Rattle.std.specs.Prelude.{decimal}
use Rattle.std.specs.Fmt.{signed_decimal}
use Rattle.std.proofs.lemmas.Bool.{lt-ltb, le-leb}
use Rattle.std.proofs.lemmas.Bool.Decides.{nat_tests}
use lib.Signed.{mag}
use Rattle.hg_base.specs.declared.limits.TheConstants.{MOST_COLUMNS, MOST_TEXT_BYTES}
use Rattle.hg_base.specs.declared.value.Column.{Column}
use Rattle.hg_base.specs.declared.value.Value.{Value}
use Rattle.hg_base.specs.declared.value.Value.TheVariants.{Number, Text}
use Rattle.hg_base.specs.Lists.{Each}
use Rattle.hg_base.specs.Text.{Field, value_field}
use Rattle.hg_base.specs.Values.{FitsColumns, FitsValue, kind_of}
use Rattle.hg_base.proofs.TextNumbers.{first_digit}
use Rattle.hg_base.specs.declared.number.Natural.TheVariants as n
use Rattle.hg_base.specs.Number.{natural_of, value_of, integer_of}
use Rattle.hg_base.proofs.Decimal.{back}
use Rattle.hg_records.specs.Bytes.{field_bytes}
use Rattle.hg_report.specs.Fields.{nth, natural_at, session_in, narrow, integer_value, value_in, values_in, row_in}
use Rattle.hg_report.proofs.Columns.{AreFew}
use Rattle.hg_transcript.proofs.Plain.{number_bytes, value_bytes}
use Rattle.hg_report.proofs.Unquoted.{text_back}

-- ---- numbers

natural_read : (k : ℕ) → k < 2 ^ 64 → natural_of (decimal k) ≡ n.Is k
natural_read k h = back (decimal k) k h refl

pub number_read : (fields : List Field) (i k : ℕ) → k < 2 ^ 64 → nth fields i ≡ field_bytes (decimal k) → natural_at fields i ≡ k
number_read fields i k h e = ap (λ text. value_of (natural_of text)) (e ∙ number_bytes k) ∙ ap value_of (natural_read k h)

narrow_same : (k : ℕ) → k < 2 ^ 32 → narrow k ≡ k
narrow_same k h = rw (lt-ltb k (2 ^ 32) h) refl

pub session_read : (fields : List Field) (i k : ℕ) → k < 2 ^ 32 → nth fields i ≡ field_bytes (decimal k) → session_in fields i ≡ k
session_read fields i k h e = ap narrow (number_read fields i k (omega arith) e) ∙ narrow_same k h

integer_text : (v : ℤ) → mag v < 2 ^ 63 → integer_value (integer_of (signed_decimal v)) ≡ v
integer_text (pos k) h =
    let first = first_digit k (omega arith) in
    let plain : (get_or (decimal k) 0 0 == 45) ≡ false = grind (arith, nat_tests, first) in
    rw (plain, natural_read k (omega arith), lt-ltb k (2 ^ 63) h) refl
integer_text (negsuc k) h =
    let some : (suc k == 0) ≡ false = grind (arith, nat_tests) in
    rw (natural_read (suc k) (omega arith), some, le-leb (suc k) (2 ^ 63) (omega arith)) refl

-- ---- rows

value_read : (value : Value) → FitsValue value → value_in (kind_of value) (field_bytes (value_field value)) ≡ value
value_read (Number v) h = ap (λ text. Number (integer_value (integer_of text))) (value_bytes v) ∙ ap Number (integer_text v h)
value_read (Text t) h = ap (λ text. Text (take MOST_TEXT_BYTES text)) (text_back t) ∙ ap Text (take_all MOST_TEXT_BYTES t h)

values_read : (fields : List Field) (i : ℕ) (row : List Value) → Each FitsValue row → ((k : ℕ) → k < length row → nth fields (i + k) ≡ field_bytes (nth (map value_field row) k)) →
    values_in fields i (map kind_of row) ≡ row
unfolding values_in
values_read fields i [] h are = refl
values_read fields i (value ∷ row) h are =
    let here : i + 0 ≡ i = omega arith in
    let first : value_in (kind_of value) (nth fields i) ≡ value = ap (λ k. value_in (kind_of value) (nth fields k)) (sym here) ∙
    ap (value_in (kind_of value)) (are 0 (omega arith)) ∙ value_read value h.0 in
    let others = values_read fields (i + 1) row h.1 (λ k less. let next : (i + 1) + k ≡ i + suc k = omega arith in ap (nth fields) next ∙ are (suc k) (omega (arith, less))) in
    ap (λ v. v ∷ values_in fields (i + 1) (map kind_of row)) first ∙ ap (λ vs. value ∷ vs) others

pub row_read : (fields : List Field) (i : ℕ) (kinds : List Column) (row : List Value) → FitsColumns kinds row → AreFew kinds →
    ((k : ℕ) → k < length row → nth fields (i + k) ≡ field_bytes (nth (map value_field row) k)) → row_in fields i kinds ≡ Some row
row_read fields i kinds row h few are =
    rw (le-leb 1 (length kinds) few.some, le-leb (length kinds) MOST_COLUMNS few.most) (ap Some (ap (values_in fields i) (sym h.0) ∙ values_read fields i row h.1 are))
