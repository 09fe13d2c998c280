-- A dump reads in a session that no record of the script names. What it does, as records and lines, and as a log.
use Rattle.std.specs.Prelude.{◌≡◌, ℕ, suc, ◌==◌, max, List, [], ◌∷◌, ◌++◌, length, map, take, drop, None, IsTrue, IsFalse}
use Rattle.std.specs.List.{flat_map, list_any}
use Rattle.hg_base.specs.declared.scope.Scope.TheVariants.{All}
use Rattle.hg_base.specs.declared.statement.Statement.{Statement}
use Rattle.hg_base.specs.declared.statement.Statement.TheVariants.{Begin, Commit as CommitIt}
use Rattle.hg_base.specs.declared.statement.Record.{Record}
use Rattle.hg_base.specs.declared.report.Told.{Told}
use Rattle.hg_base.specs.declared.line.Answer.{Answer}
use Rattle.hg_base.specs.declared.line.Answer.TheVariants.{Begun, Ended}
use Rattle.hg_base.specs.declared.line.Line.{Line}
use Rattle.hg_base.specs.declared.line.Printed.{Printed}
use Rattle.hg_base.specs.Lists.{greatest}
use Rattle.hg_base.specs.Script.{Script, run}
use Rattle.hg_base.specs.History.{History}
use Rattle.hg_base.specs.Sound.{IsSound, all_said}
use Rattle.hg_base.specs.Transcript.{history_of, of_session, sessions_of}
use Rattle.hg_core.specs.declared.log.LogEntry.{LogEntry}
use Rattle.hg_core.specs.declared.log.LogEntry.TheVariants.{Began, Saw, Over}

-- its number: the next after those of the script, of which there is at least one
abbrev pub reader_of : Script → ℕ
reader_of script = suc (max 1 (greatest (map (λ (r : Record). r.session) script.records)))

-- ---- its records and lines

-- a statement of session j, which is at no place of a script
abbrev pub asked : ℕ → Statement → Record
asked j statement = record { place = 0; session = j; statement = statement }

-- the line of such a statement
abbrev pub answered : ℕ → Answer → Line
answered j answer = record { session = j; place = 0; reply = record { at = None; answer = answer; number = None } }

-- what session j asks: at each of these snapshots a transaction of all tables, which ends without a write
abbrev pub read_records : ℕ → List ℕ → List Record
read_records j [] = []
read_records j (at ∷ ats) = asked j (Begin All) ∷ asked j CommitIt ∷ read_records j ats

-- the lines of these transactions, each of which begins at its snapshot
abbrev pub read_lines : ℕ → List ℕ → List Line
read_lines j [] = []
read_lines j (at ∷ ats) = answered j (Begun at) ∷ answered j Ended ∷ read_lines j ats

-- ---- with those of the script

-- the script with the reader's records
abbrev pub with_reader : Script → List ℕ → Script
with_reader script ats = record script { records = script.records ++ read_records (reader_of script) ats }

-- how many lines of a run are of the script's sessions: the first ones
abbrev pub session_lines : Script → ℕ
session_lines script = length (flat_map (λ j. of_session j script.records) (sessions_of script.records))

-- the lines of a run with the reader's, which come after those of the script's sessions and before the collectors'
abbrev pub lines_with : Script → List ℕ → List Line → List Line
lines_with script ats lines = take (session_lines script) lines ++ (read_lines (reader_of script) ats ++ drop (session_lines script) lines)

-- What a run printed is sound concurrently with a session that read all tables at these snapshots: with the lines of that session
-- it is what a run of all these sessions may print.
abbrev pub IsSoundWith : ℕ → Script → List ℕ → Printed → Type 0
IsSoundWith rounds script ats printed = IsSound (run rounds) (with_reader script ats) (record { lines = lines_with script ats printed.lines; totals = printed.totals })

-- the history that the lines of a run print
abbrev pub printed_history : ℕ → Script → List Line → History
printed_history rounds script lines = history_of (all_said (run rounds) script lines)

-- a held snapshot of the reader is one of these, and was never moved
abbrev pub IsHeldAt : Script → List ℕ → Told → Type 0
IsHeldAt script ats told = IsTrue (told.session == reader_of script) → IsTrue (list_any (λ at. at == told.number) ats) × IsFalse told.moved

-- a held snapshot of another session
abbrev pub IsOfOther : Script → Told → Type 0
IsOfOther script told = IsFalse (told.session == reader_of script)

-- ---- its log

-- a log without the entries of its looks
abbrev pub without_looks : List LogEntry → List LogEntry
without_looks [] = []
without_looks (Saw table low high b rows ∷ log) = without_looks log
without_looks (e ∷ log) = e ∷ without_looks log

-- a log that has gained a transaction of all tables at each of these snapshots, without their looks
abbrev pub log_at : List ℕ → List LogEntry → List LogEntry
log_at [] log = log
log_at (at ∷ ats) log = log_at ats (Over ∷ Began at All ∷ log)

-- the log of a session that read all tables at these snapshots, the first one first, and did nothing else
abbrev pub HasReadAll : List ℕ → List LogEntry → Type 0
HasReadAll ats log = without_looks log ≡ log_at ats []
