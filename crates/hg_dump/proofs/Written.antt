-- The records of a text are those that were written.
use Rattle.std.proofs.Common.{◌≡◌, ◌<◌, ◌≤◌, ◌+◌, ℕ, zero, suc, List, [], ◌∷◌, ◌++◌, length, length-append, map, Some, ◌==◌, refl, ap, arith}
use Rattle.std.specs.Prelude.{⊤}
use Rattle.std.specs.List.{flat_map}
use Rattle.csv.specs.Machine.{next_record}
use Rattle.csv.specs.Reading.{default_config, records_from, strip_bom}
use Rattle.csv.specs.Writing.{default_writer, escaped, field_text, fields_text, is_blank, row_text}
use Rattle.csv.specs.declared.parser.State.TheVariants as st
use Rattle.csv.proofs.RoundTrip.{read-write-many}
use Rattle.hg_base.proofs.ListFacts.{cases}
use Rattle.hg_base.specs.Lists.{Each}
use Rattle.hg_base.specs.Script.{Declaration, Script}
use Rattle.hg_base.specs.Text.{Field}
use Rattle.hg_script.specs.Fields.{rows_of}
use Rattle.hg_records.specs.Bytes.{flexible_writer, record_bytes}
use Rattle.hg_dump.specs.Records.{dump_records, dump_text, put_fields, table_fields, version_records}
use Rattle.hg_dump.specs.Rows.{Kept}
use Rattle.hg_records.proofs.RecordBytes.{record_is}

-- ---- flexible lengths change no byte

same_escaped : (x : Field) → escaped flexible_writer x ≡ escaped default_writer x
unfolding escaped
same_escaped [] = refl
same_escaped (b ∷ rest) = rw (same_escaped rest) refl

same_field : (x : Field) → field_text flexible_writer x ≡ field_text default_writer x
same_field x = rw (same_escaped x) refl

same_fields : (fields : List Field) → fields_text flexible_writer fields ≡ fields_text default_writer fields
unfolding fields_text
same_fields [] = refl
same_fields (x ∷ xs) = rw (same_field x, same_fields xs) refl

same_row : (x y : Field) (more : List Field) → record_bytes (x ∷ y ∷ more) ≡ row_text default_writer (x ∷ y ∷ more)
unfolding record_bytes is_blank
same_row x y more = rw (same_field x, same_fields (y ∷ more)) refl

-- ---- records of two fields or more

abbrev HasTwo : List Field → Type 0
HasTwo [] = ⊥
HasTwo (x ∷ []) = ⊥
HasTwo (x ∷ y ∷ more) = ⊤

one_read : (r : List Field) (tail : List ℕ) → HasTwo r → next_record default_config st.StartRecord [] [] (record_bytes r ++ tail) ≡ Some (r, st.StartRecord, tail)
one_read [] tail h = absurd h
one_read (x ∷ []) tail h = absurd h
one_read (x ∷ y ∷ more) tail h = rw (same_row x y more) (read-write-many x y more tail)

all_read : (n : ℕ) (rows : List (List Field)) → Each HasTwo rows → length rows < n → records_from default_config n st.StartRecord (flat_map record_bytes rows) ≡ rows
unfolding records_from next_record
all_read zero rows h less = absurd (omega (arith, less))
all_read (suc n) [] h less = refl
all_read (suc n) (r ∷ rs) h less = rw (one_read r (flat_map record_bytes rs) h.0) (ap (λ t. r ∷ t) (all_read n rs h.1 (omega (arith, less))))

some_bytes : (r : List Field) → HasTwo r → 1 ≤ length (record_bytes r)
some_bytes [] h = absurd h
some_bytes (x ∷ []) h = absurd h
some_bytes (x ∷ y ∷ more) h = rw (record_is x y more) (omega (arith, length-append {A = ℕ}))

long_enough : (rows : List (List Field)) → Each HasTwo rows → length rows ≤ length (flat_map record_bytes rows)
long_enough [] h = omega arith
long_enough (r ∷ rs) h = omega (arith, some_bytes r h.0, long_enough rs h.1, length-append (record_bytes r) (flat_map record_bytes rs))

-- ---- a dump begins with no byte order mark

puts_plain : (tables : List Declaration) (rows : List Kept) → strip_bom (flat_map record_bytes (map (put_fields tables) rows)) ≡ flat_map record_bytes (map (put_fields tables) rows)
unfolding strip_bom record_bytes fields_text is_blank
puts_plain tables [] = refl
puts_plain tables (r ∷ rs) = refl

tables_plain : (version : ℕ) (ds tables : List Declaration) (rows : List Kept)
    → strip_bom (flat_map record_bytes (map (table_fields version) ds ++ map (put_fields tables) rows)) ≡ flat_map record_bytes (map (table_fields version) ds ++ map (put_fields tables) rows)
unfolding strip_bom record_bytes is_blank
tables_plain version [] tables rows = puts_plain tables rows
tables_plain version (d ∷ ds) tables rows = refl

all_plain : (version : ℕ) (ds tables : List Declaration) (rows : List Kept)
    → strip_bom (flat_map record_bytes ((version_records version ++ map (table_fields version) ds) ++ map (put_fields tables) rows))
    ≡ flat_map record_bytes ((version_records version ++ map (table_fields version) ds) ++ map (put_fields tables) rows)
unfolding strip_bom record_bytes is_blank
all_plain version ds tables rows = cases (version == 1)
    (λ e. rw e (tables_plain version ds tables rows))
    (λ e. rw e refl)

-- ---- the records of a dump

puts_have_two : (tables : List Declaration) (rows : List Kept) → Each HasTwo (map (put_fields tables) rows)
puts_have_two tables [] = tt
puts_have_two tables (r ∷ rs) = (tt, puts_have_two tables rs)

tables_have_two : (version : ℕ) (ds : List Declaration) (rows : List (List Field)) → Each HasTwo rows → Each HasTwo (map (table_fields version) ds ++ rows)
tables_have_two version [] rows h = h
tables_have_two version (d ∷ ds) rows h = (tt, tables_have_two version ds rows h)

all_have_two : (version : ℕ) (ds tables : List Declaration) (rows : List Kept) → Each HasTwo ((version_records version ++ map (table_fields version) ds) ++ map (put_fields tables) rows)
all_have_two version ds tables rows =
    let more = tables_have_two version ds (map (put_fields tables) rows) (puts_have_two tables rows) in
    cases (version == 1) (λ e. rw e more) (λ e. rw e (tt, more))

pub records_read : (script : Script) (rows : List Kept) → rows_of (dump_text script rows) ≡ dump_records script rows
records_read script rows =
    let two = all_have_two script.version script.tables script.tables rows in
    rw (all_plain script.version script.tables script.tables rows)
    (all_read (length (dump_text script rows) + 1) (dump_records script rows) two (omega (arith, long_enough (dump_records script rows) two)))
