-- A run of one record, in which a collector met the reader, and a replay of its dump.
use Rattle.std.specs.Prelude.{ℕ, List, [], ◌∷◌, Bool, Some, codes, pos}
use Rattle.hg_base.specs.declared.report.Kind.TheVariants as kinds
use Rattle.hg_base.specs.declared.report.Report.{Report}
use Rattle.hg_base.specs.declared.scope.Scope.TheVariants.{All}
use Rattle.hg_base.specs.declared.line.Answer.TheVariants.{Stored}
use Rattle.hg_base.specs.declared.line.Line.{Line}
use Rattle.hg_base.specs.declared.line.Printed.{Printed}
use Rattle.hg_base.specs.declared.value.Column.TheVariants as columns
use Rattle.hg_base.specs.declared.value.Value.TheVariants.{Number}
use Rattle.hg_base.specs.Script.{Script}
use Rattle.hg_headline.specs.Ran.{run_lines}
use Rattle.hg_headline.specs.Worked.{five, line, report, run_records, session_lines}
use Rattle.hg_dump.specs.Rows.{Kept}

-- session 1 puts 7, outside a transaction; so the reader is session 2
abbrev pub script : Script
script = record { version = 2; tables = record { name = codes "t"; kinds = columns.Number ∷ [] } ∷ []; records = run_records }

-- a report that session 2 held a snapshot
abbrev pub holding : ℕ → Bool → Report
holding number moved = record {
  kind = kinds.Interval;
  mark = 1;
  horizon = 1;
  removed = 0;
  entries = record { list = record { session = 2; number = number; scope = All; moved = moved } ∷ []; room = 1 };
}

-- what is printed where the interval collector made that report
abbrev pub printed : ℕ → Bool → Printed
printed number moved = record {
  lines = run_lines run_records session_lines (report kinds.Group ∷ []) (report kinds.Table ∷ []) (holding number moved ∷ []);
  totals = record { made = 1; undone = 0; group = 0; table = 0; interval = 0; left = 1 };
}

-- ---- its dump

-- the one row of the dump
abbrev pub rows : List Kept
rows = record { rid = five; row = Number (pos 7) ∷ [] } ∷ []

-- the replay of it: the put is the third record, after the version and the table
abbrev pub replayed : List Line
replayed = line 3 1 (Some 0) Stored (Some 1) ∷ []
