-- A record that breaks no rule, by its draft: the version's, a table's, and a put.
use Rattle.std.proofs.Common.{◌≡◌, ◌<◌, ◌≤◌, ◌+◌, ◌∙◌, ℕ, zero, suc, List, [], ◌∷◌, ◌++◌, length, map, replicate, Bool, true, false, ◌==◌, ◌&&◌, Some, None, refl, ap, arith, bytes_eq}
use Rattle.std.proofs.lemmas.Bool.{eqb-true, le-leb}
use Rattle.std.proofs.lemmas.List.{length-map}
use Rattle.std.proofs.lemmas.Iterator.Adapters.{position_from-zero}
use Rattle.std.specs.Cmp.Lexicographic.{bytes_decides}
use Rattle.std.specs.List.{AllByRecursion, IsDistinct, list_all, position_from}
use Rattle.hg_base.specs.declared.limits.TheConstants.{MOST_COLUMNS}
use Rattle.hg_base.specs.declared.rid.TableId.{TableId}
use Rattle.hg_base.specs.declared.value.Column.{Column}
use Rattle.hg_base.specs.declared.value.Column.TheVariants as column
use Rattle.hg_base.specs.Script.{Declaration, Script}
use Rattle.hg_base.specs.Text.{name_of}
use Rattle.hg_base.proofs.ListFacts.{cases}
use Rattle.hg_script.specs.declared.columns.Columns.TheVariants as columns
use Rattle.hg_script.specs.declared.draft.Draft.{Draft}
use Rattle.hg_script.specs.declared.word.Word.{Word}
use Rattle.hg_script.specs.declared.word.Word.TheVariants as word
use Rattle.hg_script.specs.Fields.{Field, Fields, word_of}
use Rattle.hg_script.specs.Draft.{columns_by, draft_of, has_name, is_fresh, is_letter, kind_by, table_at, table_named}
use Rattle.hg_script.specs.Rules.{columns_breaks, count_breaks, fields_breaks, name_breaks, number_breaks, order_breaks, range_breaks, value_breaks}
use Rattle.hg_script.specs.Lawful.{IsTable}
use Rattle.hg_script.specs.Meaning.{first_code, with_draft, with_row}
use Rattle.hg_dump.specs.Records.{columns_field, letter_of, put_fields, table_fields}
use Rattle.hg_dump.specs.Rows.{Kept}
use Rattle.hg_dump.proofs.Numbers.{AreNumbers, natural_read}

-- ---- a record by its word and its draft

-- no rule is broken by a record that reads as this word and this draft
pub record BreaksNone (place : ℕ) (s : Script) (r : Fields) (w : Word) (d : Draft) : Type 0 where
  pub word : word_of place r ≡ Some w
  pub draft : draft_of s.version s.tables w r ≡ d
  pub count : count_breaks place s.tables (Some w) ≡ false
  pub fields : fields_breaks w (length r) ≡ false
  pub number : number_breaks d ≡ false
  pub range : range_breaks d ≡ false
  pub name : name_breaks d ≡ false
  pub columns : columns_breaks s.tables d ≡ false
  pub value : value_breaks d ≡ false
  pub order : order_breaks s.records d ≡ false

pub no_code : (place : ℕ) (s : Script) (r : Fields) (w : Word) (d : Draft) → BreaksNone place s r w d → first_code place s r ≡ None
unfolding first_code
no_code place s r w d h = rw (h.word, h.draft, h.count, h.fields, h.number, h.range, h.name, h.columns, h.value, h.order) refl

pub row_added : (place : ℕ) (s : Script) (r : Fields) (w : Word) (d : Draft) → BreaksNone place s r w d → with_row place s r ≡ with_draft place s r d
unfolding with_row
row_added place s r w d h = rw (h.word, h.draft) refl

-- ---- words

not_first : (b : Bool) → (b && false) ≡ false
not_first true = refl
not_first false = refl

pub table_word : (place version : ℕ) (d : Declaration) → word_of place (table_fields version d) ≡ Some word.Table
table_word place version d = rw (not_first (place == 1)) refl

pub put_word : (place : ℕ) (tables : List Declaration) (kept : Kept) → word_of place (put_fields tables kept) ≡ Some word.Put
put_word place tables kept = rw (not_first (place == 1)) refl

-- ---- columns

numbers_back : (kinds : List Column) → AreNumbers kinds → replicate (length kinds) column.Number ≡ kinds
numbers_back [] h = refl
numbers_back (k ∷ ks) h = rw (h.0, numbers_back ks h.1) refl

letter_back : (k : Column) → kind_by (letter_of k) ≡ k
letter_back column.Number = refl
letter_back column.Text = refl

letters_back : (kinds : List Column) → map kind_by (map letter_of kinds) ≡ kinds
letters_back [] = refl
letters_back (k ∷ ks) = rw (letter_back k, letters_back ks) refl

is_a_letter : (k : Column) → is_letter (letter_of k) ≡ true
is_a_letter column.Number = refl
is_a_letter column.Text = refl

are_letters : (kinds : List Column) → list_all is_letter (map letter_of kinds) ≡ true
are_letters [] = refl
are_letters (k ∷ ks) = rw (is_a_letter k, are_letters ks) refl

pub columns_read : (version : ℕ) (kinds : List Column) → 1 ≤ length kinds → length kinds ≤ MOST_COLUMNS → (version ≡ 1 → AreNumbers kinds) →
    columns_by version (columns_field version kinds) ≡ columns.Are kinds
columns_read version kinds some most numbers = cases (version == 1)
    (λ e.
    let one : version ≡ 1 = eqb-true version 1 e in
    rw (e, natural_read (length kinds) (omega (arith, most)), le-leb 1 (length kinds) some, le-leb (length kinds) MOST_COLUMNS most, numbers_back kinds (numbers one)) refl)
    (λ e. rw (e, length-map kinds letter_of, le-leb 1 (length kinds) some, le-leb (length kinds) MOST_COLUMNS most, are_letters kinds, letters_back kinds) refl)

-- ---- names

abbrev pub names : List Declaration → List Field
names tables = map (λ d. d.name) tables

abbrev pub AreDistinct : List Declaration → Type 0
AreDistinct tables = IsDistinct bytes_eq (names tables)

same_bytes : (name : Field) → bytes_eq name name ≡ true
same_bytes name = (bytes_decides name name).1 refl

at_name : (P : Field → Type 0) (tables : List Declaration) (i : ℕ) → AllByRecursion P (names tables) → i < length tables → P (name_of tables (record { 0 = i }))
at_name P [] i h less = absurd (omega (arith, less))
at_name P (d ∷ ds) zero h less = h.0
at_name P (d ∷ ds) (suc i) h less = at_name P ds i h.1 (omega (arith, less))

first_of_name : (tables : List Declaration) (i k : ℕ) → AreDistinct tables → i < length tables → position_from (has_name (name_of tables (record { 0 = i }))) k tables ≡ Some (k + i)
unfolding IsDistinct
first_of_name [] i k h less = absurd (omega (arith, less))
first_of_name (d ∷ ds) zero k h less = rw (same_bytes d.name) (ap Some (omega arith))
first_of_name (d ∷ ds) (suc i) k h less =
    let other = at_name (λ y. bytes_eq d.name y ≡ false) ds i h.0 (omega (arith, less)) in
    rw other (first_of_name ds i (k + 1) h.1 (omega (arith, less)) ∙ ap Some (omega arith))

-- a table's name leads to it
pub named : (tables : List Declaration) (table : TableId) → AreDistinct tables → table.0 < length tables → table_named tables (name_of tables table) ≡ Some table
named tables table h less = rw (position_from-zero (has_name (name_of tables table)) tables, first_of_name tables table.0 0 h less) (ap (λ i. Some (table_at i)) (omega arith))

at_middle : (P : Field → Type 0) (done more : List Declaration) (d : Declaration) → AllByRecursion P (names (done ++ d ∷ more)) → P d.name
at_middle P [] more d h = h.0
at_middle P (x ∷ done) more d h = at_middle P done more d h.1

none_before : (done more : List Declaration) (d : Declaration) (k : ℕ) → AreDistinct (done ++ d ∷ more) → position_from (has_name d.name) k done ≡ None
unfolding IsDistinct
none_before [] more d k h = refl
none_before (x ∷ done) more d k h = rw (at_middle (λ y. bytes_eq x.name y ≡ false) done more d h.0) (none_before done more d (k + 1) h.1)

-- no table before it has a table's name
pub fresh : (done more : List Declaration) (d : Declaration) → AreDistinct (done ++ d ∷ more) → IsTable d → is_fresh done d.name ≡ true
fresh done more d h is = rw (is.name, position_from-zero (has_name d.name) done, none_before done more d 0 h) refl
