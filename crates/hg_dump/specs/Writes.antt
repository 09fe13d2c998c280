-- What the parts of an export append. Each says that the rows which were written are those of every history in which the entries of
-- the session's log are right.
use Rattle.std.specs.Prelude.{◌≡◌, ℕ, ◌-◌, ◌^◌, List, ◌++◌, map}
use Rattle.std.specs.List.{flat_map}
use Rattle.hg_base.specs.declared.rid.TableId.{TableId}
use Rattle.hg_base.specs.History.{History}
use Rattle.hg_base.specs.Replies.{AreRows}
use Rattle.hg_base.specs.Script.{Declaration, Script}
use Rattle.hg_core.specs.declared.log.LogEntry.{LogEntry}
use Rattle.hg_rule.specs.declared.view.View.{View}
use Rattle.hg_cursor.specs.declared.cursor.Cursor.{Cursor}
use Rattle.hg_cursor.specs.Cursors.{at_of, table_of, high_of, rest_of, shown_at}
use Rattle.hg_cursor.specs.Given.{begins_at, AreFirstOf, HasMoved}
use Rattle.hg_cursor.specs.Keys.{Rows}
use Rattle.hg_cursor.specs.Logs.{GoesOn}
use Rattle.hg_records.specs.Bytes.{record_bytes}
use Rattle.hg_dump.specs.Records.{dump_text, put_fields}
use Rattle.hg_dump.specs.Rows.{AreRowsAt, Kept, kept_in}
use Rattle.hg_dump.specs.declared.tables.TheConstants.{FETCHED}

-- the puts of rows
abbrev pub puts_bytes : List Declaration → List Kept → List ℕ
puts_bytes tables rows = flat_map record_bytes (map (put_fields tables) rows)

-- the greatest key
abbrev pub last_of_all : ℕ
last_of_all = 2 ^ 64 - 1

-- a cursor over all keys of a table, from which nothing was fetched
pub record IsOver (at : ℕ) (table : TableId) (cursor : Cursor) : Type 0 where
  pub at_is : at_of cursor ≡ at
  pub table_is : table_of cursor ≡ table
  pub high_is : high_of cursor ≡ last_of_all
  pub rest_is : rest_of cursor ≡ begins_at 0 last_of_all

-- the rows of one fetch
pub record HasWritten (tables : List Declaration) (buckets : ℕ) (old new : Cursor) (w : View) (before after : List ℕ) : Type 0 where
  pub rows : Rows
  pub text : after ≡ before ++ puts_bytes tables (kept_in (table_of old) rows)
  pub moved : HasMoved FETCHED rows old new
  pub first : (h : History) (logs : ℕ → List LogEntry) → GoesOn buckets w h logs → AreFirstOf (shown_at h (table_of old) (at_of old)) FETCHED (rest_of old) (high_of old) rows

-- all rows of a table
pub record HasWrittenTable (tables : List Declaration) (buckets at : ℕ) (table : TableId) (w : View) (before after : List ℕ) : Type 0 where
  pub rows : Rows
  pub text : after ≡ before ++ puts_bytes tables (kept_in table rows)
  pub all : (h : History) (logs : ℕ → List LogEntry) → GoesOn buckets w h logs → AreRows (shown_at h table at) 0 last_of_all rows

-- the rows of some tables, by table and key
pub record HasWrittenTables (tables read : List Declaration) (buckets at : ℕ) (w : View) (before after : List ℕ) : Type 0 where
  pub rows : List Kept
  pub text : after ≡ before ++ puts_bytes tables rows
  pub all : (h : History) (logs : ℕ → List LogEntry) → GoesOn buckets w h logs → AreRowsAt read h at rows

-- a whole dump
pub record HasWrittenAll (script : Script) (buckets at : ℕ) (w : View) (before after : List ℕ) : Type 0 where
  pub rows : List Kept
  pub text : after ≡ before ++ dump_text script rows
  pub all : (h : History) (logs : ℕ → List LogEntry) → GoesOn buckets w h logs → AreRowsAt script.tables h at rows
