-- The records of a dump give its script.
use Rattle.std.proofs.Common.{◌≡◌, ◌<◌, ◌≤◌, ◌+◌, ◌⊎◌, ◌∙◌, ℕ, zero, suc, List, [], ◌∷◌, ◌++◌, length, length-append, map, true, false, Some, None, refl, sym, ap, subst, arith, append_assoc}
use Rattle.std.proofs.Common.{inl, inr, codes, decimal}
use Rattle.std.specs.Fmt.{digits}
use Rattle.std.proofs.lemmas.Bool.Decides.{nat_tests}
use Rattle.std.proofs.lemmas.List.{length-map}
use Rattle.hg_base.specs.declared.limits.TheConstants.{MOST_COLUMNS, MOST_RECORDS, MOST_TABLES}
use Rattle.hg_base.specs.declared.statement.Record.{Record}
use Rattle.hg_base.specs.declared.value.Column.{Column}
use Rattle.hg_base.specs.Values.{kind_of}
use Rattle.hg_base.specs.Lists.{Each}
use Rattle.hg_base.specs.Script.{Declaration, Script}
use Rattle.hg_base.specs.Text.{kinds_of, value_field}
use Rattle.hg_base.proofs.ListFacts.{append_nil}
use Rattle.hg_script.specs.declared.columns.Columns.TheVariants as columns
use Rattle.hg_script.specs.declared.draft.Ask.TheVariants.{Put}
use Rattle.hg_script.specs.declared.draft.Draft.TheVariants.{Version, Table, Session}
use Rattle.hg_base.specs.declared.number.Natural.TheVariants as n
use Rattle.hg_script.specs.declared.values.Values.TheVariants.{Are}
use Rattle.hg_script.specs.declared.word.Word.TheVariants as word
use Rattle.hg_script.specs.Fields.{Fields, rows_of}
use Rattle.hg_script.specs.Lawful.{HasNumbers, IsLawful, IsTable}
use Rattle.hg_script.specs.Meaning.{first_code, nothing, refusal_from, refusal_of, script_from, script_of, with_row}
use Rattle.hg_script.specs.Numbered.{many_before, numbered, records_before}
use Rattle.hg_script.specs.Rules.{is_reading, reading_by}
use Rattle.hg_script.proofs.Fitting.{numbers-at}
use Rattle.hg_script.proofs.Open.{fold-one}
use Rattle.hg_dump.specs.Dumps.{FitsTable, IsReadable, put_of, putting}
use Rattle.hg_dump.specs.Records.{dump_records, dump_text, put_fields, table_fields, version_records}
use Rattle.hg_dump.specs.Rows.{Kept}
use Rattle.hg_dump.proofs.Numbers.{natural_read, values_read}
use Rattle.hg_dump.proofs.Accepted.{AreDistinct, BreaksNone, columns_read, fresh, named, no_code, put_word, row_added, table_word}
use Rattle.hg_dump.proofs.Written.{records_read}

-- ---- records that are all taken

-- the records from this place on break no rule, and give the script t
pub record Gives (place : ℕ) (s : Script) (rows : List Fields) (t : Script) : Type 0 where
  pub none : refusal_from place s rows ≡ None
  pub script : script_from place s rows ≡ t

gives_none : (place : ℕ) (s t : Script) → s ≡ t → Gives place s [] t
unfolding refusal_from script_from
gives_none place s t e = record { none = refl; script = e }

gives_one : (place : ℕ) (s t : Script) (r : Fields) (rows : List Fields) → first_code place s r ≡ None → Gives (place + 1) (with_row place s r) rows t → Gives place s (r ∷ rows) t
unfolding refusal_from script_from
gives_one place s t r rows e h = record { none = rw (e, h.none) refl; script = h.script }

-- ---- puts

abbrev with_records : Script → List Record → Script
with_records s records = record s { records = records }

abbrev put_at : ℕ → Kept → Record
put_at place kept = record { place = place; session = 1; statement = (put_of kept).1 }

reads_none : (records : List Record) (place : ℕ) (kept : Kept) → is_reading 1 records ≡ false → is_reading 1 (records ++ put_at place kept ∷ []) ≡ false
reads_none records place kept h = fold-one (reading_by 1) false records (put_at place kept) ∙ h

many_kinds : (kept : Kept) (kinds : List Column) → map kind_of kept.row ≡ kinds → length kinds ≡ length kept.row
many_kinds kept kinds e = ap length (sym e) ∙ length-map kept.row kind_of

few_columns : (tables : List Declaration) (i : ℕ) → Each IsTable tables → i < length tables → (1 ≤ length (kinds_of tables (record { 0 = i }))) ×
    (length (kinds_of tables (record { 0 = i })) ≤ MOST_COLUMNS)
few_columns [] i h less = absurd (omega (arith, less))
few_columns (d ∷ ds) zero h less = (h.0.some, h.0.most)
few_columns (d ∷ ds) (suc i) h less = few_columns ds i h.1 (omega (arith, less))

module _ (s : Script) (distinct : AreDistinct s.tables) (tables : Each IsTable s.tables) (numbers : s.version ≡ 1 → Each HasNumbers s.tables) where
  put_none : (place : ℕ) (records : List Record) (kept : Kept) → place ≤ MOST_RECORDS → is_reading 1 records ≡ false → FitsTable s.tables kept
      → BreaksNone place (with_records s records) (put_fields s.tables kept) word.Put (Session (n.Is 1) (Put (Some kept.rid.table) (n.Is kept.rid.key) (Are kept.row)))
  put_none place records kept room reads fit =
      let many = many_kinds kept (kinds_of s.tables kept.rid.table) fit.2.0 in
      let few = few_columns s.tables kept.rid.table.0 tables fit.0 in
      let values = values_read s.version (kinds_of s.tables kept.rid.table) kept.row fit.2 (λ one. numbers-at s.tables kept.rid.table.0 (numbers one)) in record {
        word = put_word place s.tables kept;
        draft = rw (named s.tables kept.rid.table distinct fit.0, natural_read kept.rid.key fit.1, values) refl;
        count = grind (arith, nat_tests, room);
        fields = grind (arith, nat_tests, length-map kept.row value_field, many, few.0, few.1);
        number = refl;
        range = refl;
        name = refl;
        columns = grind (arith, nat_tests, many);
        value = refl;
        order = reads;
      }

  puts_give : (rows : List Kept) (place : ℕ) (records : List Record) → place + length rows ≤ MOST_RECORDS + 1 → is_reading 1 records ≡ false → Each (FitsTable s.tables) rows
      → Gives place (with_records s records) (map (put_fields s.tables) rows) (with_records s (records ++ numbered place (map put_of rows)))
  puts_give [] place records room reads fit = gives_none place (with_records s records) (with_records s (records ++ [])) (ap (with_records s) (sym (append_nil records)))
  puts_give (kept ∷ rows) place records room reads fit =
      let none = put_none place records kept (omega (arith, room)) reads fit.0 in
      let added = row_added place (with_records s records) (put_fields s.tables kept) word.Put _ none in
      let more = puts_give rows (place + 1) (records ++ put_at place kept ∷ []) (omega (arith, room)) (reads_none records place kept reads) fit.1 in
      gives_one place (with_records s records) _ (put_fields s.tables kept) (map (put_fields s.tables) rows) (no_code place (with_records s records) (put_fields s.tables kept) word.Put _ none)
      (rw (added, ← append_assoc records (put_at place kept ∷ []) (numbered (place + 1) (map put_of rows))) more)

-- ---- tables

abbrev so_far : ℕ → List Declaration → Script
so_far version tables = record { version = version; tables = tables; records = [] }

table_none : (place version : ℕ) (done more : List Declaration) (d : Declaration) → place ≤ MOST_RECORDS → length done < MOST_TABLES → AreDistinct (done ++ d ∷ more) → IsTable d →
    (version ≡ 1 → HasNumbers d)
    → BreaksNone place (so_far version done) (table_fields version d) word.Table (Table true (columns.Are d.kinds))
table_none place version done more d room few distinct is numbers = record {
  word = table_word place version d;
  draft = rw (fresh done more d distinct is, columns_read version d.kinds is.some is.most numbers) refl;
  count = grind (arith, nat_tests, room, few);
  fields = refl;
  number = refl;
  range = refl;
  name = refl;
  columns = refl;
  value = refl;
  order = refl;
}

tables_give : (todo done : List Declaration) (place version : ℕ) (rows : List Fields) (t : Script) → place + length todo ≤ MOST_RECORDS + 1 →
    length done + length todo ≤ MOST_TABLES → AreDistinct (done ++ todo) → Each IsTable todo
    → (version ≡ 1 → Each HasNumbers todo) → Gives (place + length todo) (so_far version (done ++ todo)) rows t → Gives place (so_far version done) (map (table_fields version) todo ++ rows) t
tables_give [] done place version rows t room few distinct is numbers rest =
    let here : place + 0 ≡ place = omega arith in
    subst (λ p. Gives p (so_far version done) rows t) here (subst (λ ds. Gives (place + 0) (so_far version ds) rows t) (append_nil done) rest)
tables_give (d ∷ ds) done place version rows t room few distinct is numbers rest =
    let none = table_none place version done ds d (omega (arith, room)) (omega (arith, few)) distinct is.0 (λ one. (numbers one).0) in
    let added = row_added place (so_far version done) (table_fields version d) word.Table _ none in
    let split = append_assoc done (d ∷ []) ds in
    let later : (place + 1) + length ds ≡ place + suc (length ds) = omega arith in
    let more = tables_give ds (done ++ d ∷ []) (place + 1) version rows t (omega (arith, room)) (omega (arith, few, length-append done (d ∷ [])))
    (subst AreDistinct (sym split) distinct) is.1 (λ one. (numbers one).1)
    (rw (later, split) rest) in
    gives_one place (so_far version done) t (table_fields version d) (map (table_fields version) ds ++ rows)
    (no_code place (so_far version done) (table_fields version d) word.Table _ none) (rw added more)

-- ---- the version

two_read : BreaksNone 1 nothing ((codes "version") ∷ (codes "2") ∷ []) word.Version (Version (n.Is 2))
two_read = record { word = refl; draft = refl; count = refl; fields = refl; number = refl; range = refl; name = refl; columns = refl; value = refl; order = refl }

two_is : decimal 2 ≡ codes "2"
unfolding digits
two_is = refl

version_gives : (version : ℕ) (rows : List Fields) (t : Script) → (version ≡ 1) ⊎ (version ≡ 2) → Gives (1 + many_before version 0) (so_far version []) rows t →
    Gives 1 nothing (version_records version ++ rows) t
version_gives version rows t (inl one) rest = rw one (rw one at rest)
version_gives version rows t (inr two) rest =
    rw (two, two_is) (gives_one 1 nothing t (codes "version" ∷ codes "2" ∷ []) rows (no_code 1 nothing _ word.Version _ two_read) (rw (row_added 1 nothing _ word.Version _ two_read) (rw two at rest)))

-- ---- all records

all_give : (script : Script) (rows : List Kept) → IsLawful script → IsReadable script rows → Gives 1 nothing (dump_records script rows) (putting script rows)
all_give script rows lawful readable =
    let version = script.version in
    let tables = script.tables in
    let before : (1 + many_before version 0) + length tables ≡ records_before script + 1 = omega arith in
    let puts = puts_give (so_far version tables) lawful.names lawful.tables lawful.numbers rows (records_before script + 1) [] (omega (arith, readable.most)) refl readable.fit in
    rw (append_assoc (version_records version) (map (table_fields version) tables) (map (put_fields tables) rows))
    (version_gives version (map (table_fields version) tables ++ map (put_fields tables) rows) (putting script rows) lawful.version
    (tables_give tables [] (1 + many_before version 0) version (map (put_fields tables) rows) (putting script rows) (omega (arith, before, readable.most))
    (omega (arith, lawful.most)) lawful.names lawful.tables lawful.numbers
    (rw before puts)))

pub accepted : (script : Script) (rows : List Kept) → IsLawful script → IsReadable script rows → refusal_of (rows_of (dump_text script rows)) ≡ None
accepted script rows lawful readable = rw (records_read script rows) (all_give script rows lawful readable).none

pub same : (script : Script) (rows : List Kept) → IsLawful script → IsReadable script rows → script_of (rows_of (dump_text script rows)) ≡ putting script rows
same script rows lawful readable = rw (records_read script rows) (all_give script rows lawful readable).script
