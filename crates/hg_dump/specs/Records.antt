-- The records of a dump, as lists of fields.
use Rattle.std.specs.Prelude.{ℕ, List, [], ◌∷◌, ◌++◌, length, map, ◌==◌, if◌then◌else◌, codes, decimal}
use Rattle.std.specs.List.{flat_map}
use Rattle.hg_base.specs.declared.value.Column.{Column}
use Rattle.hg_base.specs.declared.value.Column.TheVariants as columns
use Rattle.hg_base.specs.Script.{Declaration, Script}
use Rattle.hg_base.specs.Text.{Field, name_of, value_field}
use Rattle.hg_records.specs.Bytes.{record_bytes}
use Rattle.hg_dump.specs.Rows.{Kept}

-- `n` for a column of numbers, `t` for one of texts
abbrev pub letter_of : Column → ℕ
letter_of columns.Number = 110
letter_of columns.Text = 116

-- a table's columns: in version 1 how many there are, and later a letter for each
abbrev pub columns_field : ℕ → List Column → Field
columns_field version kinds = if version == 1 then decimal (length kinds) else map letter_of kinds

-- the version record, which version 1 has not
abbrev pub version_records : ℕ → List (List Field)
version_records version = if version == 1 then [] else (codes "version" ∷ decimal version ∷ []) ∷ []

-- the record that declares a table
abbrev pub table_fields : ℕ → Declaration → List Field
table_fields version d = codes "table" ∷ d.name ∷ columns_field version d.kinds ∷ []

-- the records before the rows
abbrev pub heading : Script → List (List Field)
heading script = version_records script.version ++ map (table_fields script.version) script.tables

-- a put of session 1
abbrev pub put_fields : List Declaration → Kept → List Field
put_fields tables kept = codes "1" ∷ codes "put" ∷ name_of tables kept.rid.table ∷ decimal kept.rid.key ∷ map value_field kept.row

-- all records of a dump of these rows
abbrev pub dump_records : Script → List Kept → List (List Field)
dump_records script rows = heading script ++ map (put_fields script.tables) rows

-- its text
abbrev pub dump_text : Script → List Kept → List ℕ
dump_text script rows = flat_map record_bytes (dump_records script rows)
