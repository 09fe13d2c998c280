-- What a script means, and under which command its text was printed. Own.
use Rattle.std.specs.Prelude.{ℕ, List}
use Rattle.hg_base.specs.declared.statement.Record.{Record}
use Rattle.hg_base.specs.declared.value.Column.{Column}

-- a table's name, as bytes, and what each of its columns holds
pub record Declaration : Type 0 where
  pub name : List ℕ
  pub kinds : List Column

-- The version of the format, the tables in the order in which they are declared, and the session records in the order in which
-- they stand.
pub record Script : Type 0 where
  pub version : ℕ
  pub tables : List Declaration
  pub records : List Record

-- the command: a replay on one thread, or a run with its number of rounds for each collector
pub data Mode : Type 0 where
  replay : Mode
  run : ℕ → Mode
