-- A row of the kinds of its table fits its columns.
use Rattle.std.proofs.Common.{◌≡◌, ◌≤◌, ℕ, zero, suc, true, false, not, ◌==◌, ◌∙◌, ap, replicate, unwrap_or, ◌&&◌, nat_le, List, [], ◌∷◌}
use Rattle.std.proofs.Common.{length, map, Option, Some, None, refl, sym, arith, option_map}
use Rattle.std.proofs.lemmas.Bool.{and_parts as and-parts}
use Rattle.std.proofs.lemmas.List.{length-map, length-replicate}
use Rattle.std.specs.List.{list_all}
use Rattle.std.proofs.lemmas.Bool.Decides.{nat_tests}
use Rattle.hg_base.specs.declared.value.Column.{Column}
use Rattle.hg_base.specs.declared.value.Column.TheVariants as column
use Rattle.hg_base.specs.declared.value.Value.{Value}
use Rattle.hg_base.specs.Values.{kind_of}
use Rattle.hg_base.specs.Text.{kinds_of}
use Rattle.hg_base.specs.Lists.{Each}
use Rattle.hg_base.specs.Script.{Declaration}
use Rattle.hg_base.proofs.ListFacts.{cases}
use Rattle.hg_script.proofs.Typed.{row-kinds}
use Rattle.hg_base.specs.declared.number.Natural.{Natural}
use Rattle.hg_base.specs.declared.number.Natural.TheVariants as n
use Rattle.hg_script.specs.declared.values.Values.{Values}
use Rattle.hg_script.specs.declared.values.Values.TheVariants.{No, Over, Bad, Are}
use Rattle.hg_base.specs.Number.{natural_of}
use Rattle.hg_base.specs.declared.number.Integer.{Integer}
use Rattle.hg_base.specs.declared.number.Integer.TheVariants as signed
use Rattle.hg_base.specs.Number.{integer_of}
use Rattle.hg_script.specs.Fields.{Field}
use Rattle.hg_script.specs.Draft.{before, columns_by, counted, is_letter, kind_by, lettered, numbers_in, row_in}
use Rattle.hg_script.specs.Draft.{values_by}
use Rattle.hg_script.specs.Rules.{count_of, is_bad_values, is_no_columns, is_over_columns}
use Rattle.hg_script.specs.Meaning.{kinds_in, row_of}
use Rattle.hg_script.specs.Lawful.{HasNumbers}

-- ---- tables

-- each column holds numbers
abbrev pub AreNumbers : List Column → Type 0
AreNumbers kinds = Each (λ kind. kind ≡ column.Number) kinds

-- so do those of each table, and there are none of a table that is not there
pub numbers-at : (tables : List Declaration) (i : ℕ) → Each HasNumbers tables → AreNumbers (kinds_of tables (record { 0 = i }))
numbers-at [] i h = tt
numbers-at (d ∷ ds) zero h = h.0
numbers-at (d ∷ ds) (suc i) h = numbers-at ds i h.1

numbers-alone : (k : ℕ) → AreNumbers (replicate k column.Number)
numbers-alone zero = tt
numbers-alone (suc k) = (refl, numbers-alone k)

-- the columns that a table record declares
pub record AreColumns (version : ℕ) (kinds : List Column) : Type 0 where
  pub some : 1 ≤ length kinds
  pub most : length kinds ≤ 8
  pub numbers : version ≡ 1 → AreNumbers kinds

counted-fits : (version : ℕ) (n : Natural) → is_no_columns (counted n) ≡ false → is_over_columns (counted n) ≡ false → AreColumns version (kinds_in (counted n))
counted-fits version n.No none over = absurd (let bad : ⊥ = cc none in bad)
counted-fits version n.Over none over = absurd (let bad : ⊥ = cc over in bad)
counted-fits version (n.Is k) none over = cases (nat_le 1 k && nat_le k 8)
    (λ e. rw e (record {
      some = grind (arith, nat_tests, e, length-replicate k column.Number);
      most = grind (arith, nat_tests, e, length-replicate k column.Number);
      numbers = λ one. numbers-alone k;
    }))
    (λ e. absurd (let f = rw e at over in let bad : ⊥ = cc f in bad))

lettered-fits : (version : ℕ) (text : Field) → (version == 1) ≡ false → is_over_columns (lettered text) ≡ false → AreColumns version (kinds_in (lettered text))
lettered-fits version text other over = cases (nat_le 1 (length text) && (nat_le (length text) 8 && list_all is_letter text))
    (λ e.
    let k = and-parts (nat_le 1 (length text)) (nat_le (length text) 8 && list_all is_letter text) e in
    let m = and-parts (nat_le (length text) 8) (list_all is_letter text) k.1 in
    rw e (record {
      some = grind (arith, nat_tests, k.0, length-map text kind_by);
      most = grind (arith, nat_tests, m.0, length-map text kind_by);
      numbers = λ one. absurd (let same : (version == 1) ≡ true = grind (arith, nat_tests, one) in let bad : ⊥ = cc (same, other) in bad);
    }))
    (λ e. absurd (let f = rw e at over in let bad : ⊥ = cc f in bad))

pub columns-fit : (version : ℕ) (text : Field) → is_no_columns (columns_by version text) ≡ false → is_over_columns (columns_by version text) ≡ false →
    AreColumns version (kinds_in (columns_by version text))
columns-fit version text none over = cases (version == 1)
    (λ e. rw e (counted-fits version (natural_of text) (rw e at none) (rw e at over)))
    (λ e. rw e (lettered-fits version text e (rw e at over)))

-- ---- rows

-- numbers, as many as there are columns of numbers
row-of-numbers : (kinds : List Column) (row : List Value) → AreNumbers kinds → Each (λ v. kind_of v ≡ column.Number) row → length row ≡ length kinds → map kind_of row ≡ kinds
row-of-numbers [] [] h k many = refl
row-of-numbers [] (v ∷ vs) h k many = absurd (omega (arith, many))
row-of-numbers (c ∷ cs) [] h k many = absurd (omega (arith, many))
row-of-numbers (c ∷ cs) (v ∷ vs) h k many =
    let first : kind_of v ≡ c = k.0 ∙ sym h.0 in
    ap (λ x. x ∷ map kind_of vs) first ∙ ap (λ xs. c ∷ xs) (row-of-numbers cs vs h.1 k.1 (omega (arith, many)))

before-number : (x : Integer) (rest : Values) → Each (λ v. kind_of v ≡ column.Number) (row_of rest) → Each (λ v. kind_of v ≡ column.Number) (row_of (before x rest))
before-number signed.No rest h = tt
before-number signed.Over No h = tt
before-number signed.Over Over h = tt
before-number signed.Over (Bad n) h = tt
before-number signed.Over (Are row) h = tt
before-number (signed.Is v) No h = tt
before-number (signed.Is v) Over h = tt
before-number (signed.Is v) (Bad n) h = tt
before-number (signed.Is v) (Are row) h = (refl, h)

are-numbers : (fields : List Field) → Each (λ v. kind_of v ≡ column.Number) (row_of (numbers_in fields))
are-numbers [] = tt
are-numbers (f ∷ fs) = before-number (integer_of f) (numbers_in fs) (are-numbers fs)

-- a row of as many values as its table has columns
row-many : (n : ℕ) (values : Values) → not (n == count_of values) ≡ false → is_bad_values values ≡ false → length (row_of values) ≡ n
row-many n No h k = grind (arith, nat_tests, h)
row-many n Over h k = grind (arith, nat_tests, h)
row-many n (Bad count) h k = absurd (let bad : ⊥ = cc k in bad)
row-many n (Are row) h k = grind (arith, nat_tests, h)

typed-kinds : (kinds : List Column) (o : Option (List Value)) (n : ℕ) → ((row : List Value) → o ≡ Some row → map kind_of row ≡ kinds)
    → is_bad_values (unwrap_or (option_map Are o) (Bad n)) ≡ false → map kind_of (row_of (unwrap_or (option_map Are o) (Bad n))) ≡ kinds
typed-kinds kinds None n h k = absurd (let bad : ⊥ = cc k in bad)
typed-kinds kinds (Some row) n h k = h row refl

-- a row of the kinds of its table
pub row-fits : (version : ℕ) (kinds : List Column) (fields : List Field) → (version ≡ 1 → AreNumbers kinds) → not (length kinds == count_of (values_by version kinds fields)) ≡ false
    → is_bad_values (values_by version kinds fields) ≡ false → map kind_of (row_of (values_by version kinds fields)) ≡ kinds
row-fits version kinds fields numbers many good = cases (version == 1)
    (λ e.
    let one : version ≡ 1 = grind (arith, nat_tests, e) in
    rw e (row-of-numbers kinds (row_of (numbers_in fields)) (numbers one) (are-numbers fields) (row-many (length kinds) (numbers_in fields) (rw e at many) (rw e at good))))
    (λ e. rw e (typed-kinds kinds (row_in kinds fields) (length fields) (row-kinds kinds fields) (rw e at good)))
