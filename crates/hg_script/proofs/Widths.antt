-- The numbers of fields have their widths.
use Rattle.std.proofs.Common.{◌<◌, ◌≤◌, ◌^◌, ℕ, zero, suc, pos, neg_ℤ, List, [], ◌∷◌, length, drop, get_or, Option, Some, None, IfSome, option_map, unwrap_or, ◌==◌, nat_lt, nat_le, arith}
use Rattle.std.specs.Prelude.{⊤}
use Rattle.hg_base.specs.declared.limits.TheConstants.{MOST_TEXT_BYTES}
use Rattle.hg_base.specs.declared.value.Column.{Column}
use Rattle.hg_base.specs.declared.value.Column.TheVariants as column
use Rattle.hg_base.specs.declared.value.Value.{Value}
use Rattle.hg_base.specs.declared.value.Value.TheVariants.{Text}
use Rattle.hg_base.specs.Values.{FitsValue}
use Rattle.std.specs.Str.Parse.{digits_value}
use Rattle.std.proofs.lemmas.Bool.{ltb-true, leb-true, cond_both}
use lib.Signed.{mag}
use Rattle.hg_base.specs.Lists.{Each}
use Rattle.hg_base.specs.Text.{Fits64}
use Rattle.hg_base.specs.declared.number.Natural.{Natural}
use Rattle.hg_base.specs.declared.number.Natural.TheVariants as n
use Rattle.hg_base.specs.declared.number.Integer.{Integer}
use Rattle.hg_base.specs.declared.number.Integer.TheVariants as signed
use Rattle.hg_script.specs.declared.values.Values.{Values}
use Rattle.hg_script.specs.declared.values.Values.TheVariants.{No, Over, Bad, Are}
use Rattle.hg_base.specs.Number.{natural_of, integer_of, value_of, plus, minus, is_natural}
use Rattle.hg_script.specs.Fields.{Field}
use Rattle.hg_script.specs.Draft.{and_then, before, number_value, numbers_in, row_in, typed_in, value_in, values_by}
use Rattle.hg_script.specs.Meaning.{row_of}

pub natural-fits : (text : List ℕ) → Fits64 (value_of (natural_of text))
natural-fits text = cond_both (is_natural text) _ n.No (λ (x : Natural). value_of x < 2 ^ 64)
    (λ e. cond_both (nat_lt (digits_value 10 text) (2 ^ 64)) (n.Is (digits_value 10 text)) n.Over (λ (x : Natural). value_of x < 2 ^ 64) (λ f. ltb-true _ _ f) (λ f. omega arith))
    (λ e. omega arith)

-- ---- values

-- a value has 64 bits, with its sign
abbrev pub IsNarrow : Integer → Type 0
IsNarrow (signed.Is v) = mag v < 2 ^ 63
IsNarrow _ = ⊤

plus-narrow : (x : Natural) → IsNarrow (plus x)
plus-narrow n.No = tt
plus-narrow n.Over = tt
plus-narrow (n.Is k) = cond_both (nat_lt k (2 ^ 63)) (signed.Is (pos k)) signed.Over IsNarrow (λ e. ltb-true _ _ e) (λ e. tt)

negative-narrow : (k : ℕ) → k ≤ 2 ^ 63 → mag (neg_ℤ (pos k)) < 2 ^ 63
negative-narrow zero h = omega arith
negative-narrow (suc k) h = omega arith

minus-narrow : (x : Natural) → IsNarrow (minus x)
minus-narrow n.No = tt
minus-narrow n.Over = tt
minus-narrow (n.Is k) = cond_both (k == 0) signed.No _ IsNarrow (λ e. tt)
    (λ e. cond_both (nat_le k (2 ^ 63)) (signed.Is (neg_ℤ (pos k))) signed.Over IsNarrow (λ f. negative-narrow k (leb-true _ _ f)) (λ f. tt))

pub integer-narrow : (text : List ℕ) → IsNarrow (integer_of text)
integer-narrow text =
    cond_both (get_or text 0 0 == 45) (minus (natural_of (drop 1 text))) (plus (natural_of text)) IsNarrow (λ e. minus-narrow (natural_of (drop 1 text))) (λ e. plus-narrow (natural_of text))

-- ---- rows

abbrev pub AreFit : List Value → Type 0
AreFit row = Each FitsValue row

before-fits : (x : Integer) (rest : Values) → IsNarrow x → AreFit (row_of rest) → AreFit (row_of (before x rest))
before-fits signed.No rest h k = tt
before-fits signed.Over No h k = tt
before-fits signed.Over Over h k = tt
before-fits signed.Over (Bad n) h k = tt
before-fits signed.Over (Are row) h k = tt
before-fits (signed.Is v) No h k = tt
before-fits (signed.Is v) Over h k = tt
before-fits (signed.Is v) (Bad n) h k = tt
before-fits (signed.Is v) (Are row) h k = (h, k)

numbers-fit : (fields : List Field) → AreFit (row_of (numbers_in fields))
numbers-fit [] = tt
numbers-fit (f ∷ fs) = before-fits (integer_of f) (numbers_in fs) (integer-narrow f) (numbers-fit fs)

-- a value, if it is there, fits
number-fits : (x : Integer) → IsNarrow x → IfSome (number_value x) FitsValue
number-fits signed.No h = tt
number-fits signed.Over h = tt
number-fits (signed.Is v) h = h

value-fits : (kind : Column) (f : Field) → IfSome (value_in kind f) FitsValue
value-fits column.Number f = number-fits (integer_of f) (integer-narrow f)
value-fits column.Text f = cond_both (nat_le (length f) MOST_TEXT_BYTES) (Some (Text f)) None (λ (o : Option Value). IfSome o FitsValue) (λ e. leb-true _ _ e) (λ e. tt)

both-fit : (o : Option Value) (more : Option (List Value)) → IfSome o FitsValue → IfSome more AreFit → IfSome (and_then o more) AreFit
both-fit None more h k = tt
both-fit (Some v) None h k = tt
both-fit (Some v) (Some vs) h k = (h, k)

row-fits : (kinds : List Column) (fields : List Field) → IfSome (row_in kinds fields) AreFit
row-fits [] [] = tt
row-fits [] (f ∷ fs) = tt
row-fits (k ∷ ks) [] = tt
row-fits (k ∷ ks) (f ∷ fs) = both-fit (value_in k f) (row_in ks fs) (value-fits k f) (row-fits ks fs)

given-fits : (o : Option (List Value)) (n : ℕ) → IfSome o AreFit → AreFit (row_of (unwrap_or (option_map Are o) (Bad n)))
given-fits None n h = tt
given-fits (Some row) n h = h

-- each value of a put fits
pub values-fit : (version : ℕ) (kinds : List Column) (fields : List Field) → AreFit (row_of (values_by version kinds fields))
values-fit version kinds fields =
    cond_both (version == 1) (numbers_in fields) (typed_in kinds fields) (λ (values : Values). AreFit (row_of values)) (λ e. numbers-fit fields)
    (λ e. given-fits (row_in kinds fields) (length fields) (row-fits kinds fields))
