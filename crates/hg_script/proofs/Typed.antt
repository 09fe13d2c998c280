-- The values of a put in version 2, column by column.
use Rattle.std.proofs.Common.{◌≡◌, ◌≢◌, ◌<◌, ◌≤◌, ◌+◌, ◌∙◌, ℕ, Bool, true, false, List, [], ◌∷◌, ◌++◌, length, map, drop, get_or, Option, Some, None, option_map, unwrap_or, if◌then◌else◌}
use Rattle.std.proofs.Common.{refl, arith, sym, ap, add-one, append_assoc, drop-cons}
use Rattle.std.specs.List.{list_all}
use Rattle.std.proofs.lemmas.Bool.{false≢true}
use Rattle.std.proofs.lemmas.List.{append-nil, drop_all}
use Rattle.hg_base.specs.declared.value.Column.{Column}
use Rattle.hg_base.specs.declared.value.Column.TheVariants as column
use Rattle.hg_base.specs.declared.value.Value.{Value}
use Rattle.hg_base.specs.declared.value.Value.TheVariants.{Number, Text}
use Rattle.hg_base.specs.Values.{kind_of}
use Rattle.hg_base.specs.declared.number.Integer.{Integer}
use Rattle.hg_base.specs.declared.number.Integer.TheVariants as signed
use Rattle.hg_script.specs.declared.values.Values.{Values}
use Rattle.hg_script.specs.declared.values.Values.TheVariants.{No, Over, Bad, Are}
use Rattle.hg_base.specs.Number.{integer_of}
use Rattle.hg_script.specs.Fields.{Field, Fields, nth}
use Rattle.hg_script.specs.Draft.{and_then, before, number_value, numbers_in, row_in, typed_in, value_in}
use Rattle.hg_script.specs.Typed.{holds_numbers, or_bad}
use Rattle.hg_script.proofs.Rows.{rest-at}

-- ---- as many values as columns

none-of : (o : Option Value) (more : Option (List Value)) → more ≡ None → and_then o more ≡ None
none-of None more e = refl
none-of (Some v) more e = rw e refl

other-many : (kinds : List Column) (fields : List Field) → length fields ≢ length kinds → row_in kinds fields ≡ None
other-many [] [] h = absurd (h refl)
other-many [] (f ∷ fs) h = refl
other-many (k ∷ ks) [] h = refl
other-many (k ∷ ks) (f ∷ fs) h = none-of (value_in k f) (row_in ks fs) (other-many ks fs (λ e. h (omega (arith, e))))

pub is-bad : (kinds : List Column) (fields : List Field) → row_in kinds fields ≡ None → typed_in kinds fields ≡ Bad (length fields)
is-bad kinds fields e = rw e refl

-- another number of fields than columns
pub bad-many : (kinds : List Column) (fields : List Field) → length fields ≢ length kinds → typed_in kinds fields ≡ Bad (length fields)
bad-many kinds fields h = is-bad kinds fields (other-many kinds fields h)

-- ---- numbers alone

-- the row that values are, if they are one
abbrev given : Values → Option (List Value)
given (Are row) = Some row
given _ = None

one-number : (x : Integer) (rest : Values) → and_then (number_value x) (given rest) ≡ given (before x rest)
one-number signed.No rest = refl
one-number signed.Over No = refl
one-number signed.Over Over = refl
one-number signed.Over (Bad n) = refl
one-number signed.Over (Are row) = refl
one-number (signed.Is v) No = refl
one-number (signed.Is v) Over = refl
one-number (signed.Is v) (Bad n) = refl
one-number (signed.Is v) (Are row) = refl

row-of-numbers : (kinds : List Column) (fields : List Field) → list_all holds_numbers kinds ≡ true → length fields ≡ length kinds → row_in kinds fields ≡ given (numbers_in fields)
row-of-numbers [] [] all many = refl
row-of-numbers [] (f ∷ fs) all many = absurd (omega (arith, many))
row-of-numbers (k ∷ ks) [] all many = absurd (omega (arith, many))
row-of-numbers (column.Number ∷ ks) (f ∷ fs) all many =
    ap (and_then (number_value (integer_of f))) (row-of-numbers ks fs all (omega (arith, many))) ∙ one-number (integer_of f) (numbers_in fs)
row-of-numbers (column.Text ∷ ks) (f ∷ fs) all many = absurd (false≢true all)

given-or-bad : (values : Values) (n : ℕ) → unwrap_or (option_map Are (given values)) (Bad n) ≡ or_bad n values
given-or-bad No n = refl
given-or-bad Over n = refl
given-or-bad (Bad m) n = refl
given-or-bad (Are row) n = refl

-- columns of numbers are read as numbers
pub typed-numbers : (kinds : List Column) (fields : List Field) → list_all holds_numbers kinds ≡ true → length fields ≡ length kinds →
    typed_in kinds fields ≡ or_bad (length fields) (numbers_in fields)
typed-numbers kinds fields all many =
    ap (λ o. unwrap_or (option_map Are o) (Bad (length fields))) (row-of-numbers kinds fields all many) ∙ given-or-bad (numbers_in fields) (length fields)

-- ---- a value for each column

-- all values: those taken, and then the rest
abbrev pub onto : List Value → Option (List Value) → Option (List Value)
onto vs more = option_map (λ rest. vs ++ rest) more

pub onto-none : (o : Option (List Value)) → o ≡ onto [] o
onto-none None = refl
onto-none (Some row) = refl

one-onto : (vs : List Value) (v : Value) (more : Option (List Value)) → onto vs (and_then (Some v) more) ≡ onto (vs ++ v ∷ []) more
one-onto vs v None = refl
one-onto vs v (Some row) = ap Some (sym (append_assoc vs (v ∷ []) row))

row-more : (kinds : List Column) (r : Fields) (k : ℕ) (d : Column) → k < length kinds → 4 + k < length r
    → row_in (drop k kinds) (drop (4 + k) r) ≡ and_then (value_in (get_or kinds k d) (nth r (4 + k))) (row_in (drop (k + 1) kinds) (drop (4 + (k + 1)) r))
row-more kinds r k d h room =
    let rest : drop (4 + k) r ≡ nth r (4 + k) ∷ drop (4 + (k + 1)) r = rest-at r (4 + k) room ∙ ap (λ n. nth r (4 + k) ∷ drop n r) (omega arith) in
    let more : drop k kinds ≡ get_or kinds k d ∷ drop (k + 1) kinds = rw (add-one) (drop-cons kinds k d h) in
    ap (λ ks. row_in ks (drop (4 + k) r)) more ∙ ap (row_in (get_or kinds k d ∷ drop (k + 1) kinds)) rest

-- one field more, which is a value of its column
pub more-value : (kinds : List Column) (r : Fields) (k : ℕ) (d : Column) (vs : List Value) (v : Value) (all : Option (List Value)) → k < length kinds → 4 + k < length r
    → value_in (get_or kinds k d) (nth r (4 + k)) ≡ Some v → onto vs (row_in (drop k kinds) (drop (4 + k) r)) ≡ all → onto (vs ++ v ∷ []) (row_in (drop (k + 1) kinds) (drop (4 + (k + 1)) r)) ≡ all
more-value kinds r k d vs v all h room is e =
    sym (one-onto vs v (row_in (drop (k + 1) kinds) (drop (4 + (k + 1)) r))) ∙ (rw (row-more kinds r k d h room, is) at e)

-- one field that is none
pub no-value : (kinds : List Column) (r : Fields) (k : ℕ) (d : Column) (vs : List Value) (all : Option (List Value)) → k < length kinds → 4 + k < length r
    → value_in (get_or kinds k d) (nth r (4 + k)) ≡ None → onto vs (row_in (drop k kinds) (drop (4 + k) r)) ≡ all → all ≡ None
no-value kinds r k d vs all h room is e = sym (rw (row-more kinds r k d h room, is) at e)

-- all are taken
pub all-values : (kinds : List Column) (r : Fields) (k : ℕ) (vs : List Value) → length kinds ≤ k → length r ≤ 4 + k
    → onto vs (row_in (drop k kinds) (drop (4 + k) r)) ≡ row_in kinds (drop 4 r) → typed_in kinds (drop 4 r) ≡ Are vs
all-values kinds r k vs h room e =
    let some : Some vs ≡ row_in kinds (drop 4 r) = ap Some (sym (append-nil vs)) ∙ (rw (drop_all k kinds h, drop_all (4 + k) r room) at e) in
    ap (λ o. unwrap_or (option_map Are o) (Bad (length (drop 4 r)))) (sym some)

-- ---- a row has the kinds of its columns

number-kind : (x : Integer) (v : Value) → number_value x ≡ Some v → kind_of v ≡ column.Number
number-kind signed.No v e = absurd (let bad : ⊥ = cc e in bad)
number-kind signed.Over v e = absurd (let bad : ⊥ = cc e in bad)
number-kind (signed.Is n) v e = let is : Number n ≡ v = cc e in ap kind_of (sym is)

text-kind : (b : Bool) (f : Field) (v : Value) → (if b then Some (Text f) else None) ≡ Some v → kind_of v ≡ column.Text
text-kind true f v e = let is : Text f ≡ v = cc e in ap kind_of (sym is)
text-kind false f v e = absurd (let bad : ⊥ = cc e in bad)

value-kind : (k : Column) (f : Field) (v : Value) → value_in k f ≡ Some v → kind_of v ≡ k
value-kind column.Number f v e = number-kind (integer_of f) v e
value-kind column.Text f v e = text-kind _ f v e

kinds-by : (k : Column) (ks : List Column) (o : Option Value) (more : Option (List Value)) (row : List Value) → ((v : Value) → o ≡ Some v → kind_of v ≡ k)
    → ((vs : List Value) → more ≡ Some vs → map kind_of vs ≡ ks) → and_then o more ≡ Some row → map kind_of row ≡ k ∷ ks
kinds-by k ks None more row h next e = absurd (let bad : ⊥ = cc e in bad)
kinds-by k ks (Some v) None row h next e = absurd (let bad : ⊥ = cc e in bad)
kinds-by k ks (Some v) (Some vs) row h next e =
    let is : v ∷ vs ≡ row = cc e in
    ap (map kind_of) (sym is) ∙ ap (λ x. x ∷ map kind_of vs) (h v refl) ∙ ap (λ xs. k ∷ xs) (next vs refl)

pub row-kinds : (kinds : List Column) (fields : List Field) (row : List Value) → row_in kinds fields ≡ Some row → map kind_of row ≡ kinds
row-kinds [] [] row e = let is : [] ≡ row = cc e in ap (map kind_of) (sym is)
row-kinds [] (f ∷ fs) row e = absurd (let bad : ⊥ = cc e in bad)
row-kinds (k ∷ ks) [] row e = absurd (let bad : ⊥ = cc e in bad)
row-kinds (k ∷ ks) (f ∷ fs) row e = kinds-by k ks (value_in k f) (row_in ks fs) row (value-kind k f) (row-kinds ks fs) e
