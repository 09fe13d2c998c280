-- What clauses say of a reading.
use Rattle.std.specs.Prelude.{ℕ}
use Rattle.hg_base.specs.Script.{Script}
use Rattle.hg_rule.specs.declared.board.Board.{Board}
use Rattle.hg_store.specs.declared.store.Store.{Store}
use Rattle.hg_dump.specs.declared.tables.Reading.{Reading}

-- the board of the tables that are read
abbrev pub board_in : Reading → Board
board_in r = r.tables.board.now

-- the store of the tables that are read
abbrev pub store_in : Reading → Store
store_in r = r.tables.store.now

-- the script that declares the tables
abbrev pub script_in : Reading → Script
script_in r = r.script.now

-- the snapshot at which the tables are read
abbrev pub at_in : Reading → ℕ
at_in r = r.at
