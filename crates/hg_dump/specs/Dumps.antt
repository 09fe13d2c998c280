-- The script that rebuilds a snapshot.
use Rattle.std.specs.Prelude.{ℕ, ◌+◌, ◌≤◌, List, length, map}
use Rattle.hg_base.specs.declared.limits.TheConstants.{MOST_RECORDS}
use Rattle.hg_base.specs.declared.statement.Statement.{Statement}
use Rattle.hg_base.specs.declared.statement.Statement.TheVariants.{Put}
use Rattle.hg_base.specs.Lists.{Each}
use Rattle.hg_base.specs.Values.{FitsColumns}
use Rattle.hg_base.specs.Script.{Declaration, Script}
use Rattle.hg_base.specs.History.{History}
use Rattle.hg_base.specs.Text.{Fits64, kinds_of}
use Rattle.hg_script.specs.Lawful.{IsAmong}
use Rattle.hg_script.specs.Numbered.{numbered, records_before}
use Rattle.hg_dump.specs.Rows.{Kept, rows_at}

-- a put of session 1
abbrev pub put_of : Kept → ℕ × Statement
put_of kept = (1, Put kept.rid kept.row)

-- a script of the same version and the same tables that puts these rows, each outside a transaction
abbrev pub putting : Script → List Kept → Script
putting script rows = record script { records = numbered (records_before script + 1) (map put_of rows) }

-- the script that rebuilds what the tables show at a snapshot: one put for each row, by table and key
abbrev pub dump_of : Script → History → ℕ → Script
dump_of script h s = putting script (rows_at script.tables h s)

-- ---- what a reader of scripts accepts

-- a row of a declared table, with the number and the kinds of its columns
abbrev pub FitsTable : List Declaration → Kept → Type 0
FitsTable tables kept = IsAmong tables kept.rid.table × Fits64 kept.rid.key × FitsColumns (kinds_of tables kept.rid.table) kept.row

-- rows that fit their tables, and no more records than a script may have
pub record IsReadable (script : Script) (rows : List Kept) : Type 0 where
  pub fit : Each (FitsTable script.tables) rows
  pub most : records_before script + length rows ≤ MOST_RECORDS
