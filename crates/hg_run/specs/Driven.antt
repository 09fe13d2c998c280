-- What the two drivers make of an engine's sessions and collectors.
use Rattle.std.specs.Prelude.{◌≡◌, ℕ, ◌<◌, ◌≤◌, ◌++◌, List, length, map, max, None, Result, IfOk, ⊤}
use Rattle.std.specs.List.{flat_map}
use Rattle.hg_base.specs.declared.line.Line.{Line}
use Rattle.hg_base.specs.declared.report.Kind.{Kind}
use Rattle.hg_base.specs.declared.report.Kind.TheVariants.{Group, Table, Interval}
use Rattle.hg_base.specs.declared.report.Sweep.{Sweep}
use Rattle.hg_base.specs.declared.statement.Record.{Record}
use Rattle.hg_base.specs.declared.fault.NoMemory.{NoMemory}
use Rattle.hg_base.specs.Lists.{Each, greatest, numbers_from}
use Rattle.hg_base.specs.Script.{Script}
use Rattle.hg_base.specs.Shape.{HasShape}
use Rattle.hg_base.specs.Transcript.{of_session}
use Rattle.hg_core.specs.declared.log.LogEntry.{LogEntry}
use Rattle.hg_core.specs.Reading.{Follows}
use Rattle.hg_rule.specs.declared.view.Sizes.{Sizes}
use Rattle.hg_rule.specs.Facts.{new_pass}
use Rattle.hg_rule.specs.New.{EachFrom}
use Rattle.hg_rule.specs.Views.{pass}
use Rattle.hg_headline.specs.Counted.{Closes}
use Rattle.hg_session.specs.declared.engine.Engine.{Engine}
use Rattle.hg_session.specs.declared.session.Session.{Session}
use Rattle.hg_session.specs.Engines.{engine_sizes}
use Rattle.hg_transcript.specs.LinesText.{Shown}
use Rattle.hg_script.specs.Lawful.{IsLawful}
use Rattle.hg_session.specs.Finished.{logs_of, IsClosed}
use Rattle.hg_session.specs.Opened.{IsNewOf}
use Rattle.hg_session.specs.Sessions.{cursor_of}
use Rattle.hg_collectors.specs.declared.collectors.Collectors.{Collectors}
use Rattle.hg_run.specs.Collecting.{AreCollectors}
use Rattle.hg_collectors.specs.Collecting.{removed_of, view_in}
use Rattle.hg_collectors.specs.Rounding.{IsRoundBy, AreRounds}
use Rattle.hg_collectors.specs.Telling.{sweep_lines, sweeps_of}
use Rattle.hg_run.specs.Working.{HasWorked}

-- how many sessions a script has: those up to the greatest number, and at least one
abbrev pub sessions_in : Script → ℕ
sessions_in script = max 1 (greatest (map (λ (r : Record). r.session) script.records))

-- an engine for a lawful script: it has the script's sessions and tables, and some bucket
pub record IsEngineFor (script : Script) (e : Engine) : Type 0 where
  pub lawful : IsLawful script
  pub sessions_are : (engine_sizes e).sessions ≡ sessions_in script
  pub tables : (engine_sizes e).tables ≡ length script.tables
  pub some : 0 < (engine_sizes e).buckets

-- an engine of so many sessions for the tables of a script; its sessions and collectors have done nothing yet
pub record IsOpenedWith (sessions : ℕ) (script : Script) (buckets : ℕ) (e : Engine) (list : List Session) (collectors : Collectors) : Type 0 where
  pub sessions_are : (engine_sizes e).sessions ≡ sessions
  pub tables : (engine_sizes e).tables ≡ length script.tables
  pub buckets_are : (engine_sizes e).buckets ≡ buckets
  pub quota : length script.records ≤ (engine_sizes e).quota
  pub statements : (j : ℕ) → length (of_session j script.records) ≤ (engine_sizes e).quota
  pub all : length list ≡ (engine_sizes e).sessions
  pub new : EachFrom (IsNewOf e (engine_sizes e).quota) 1 list
  pub collectors_are : AreCollectors e collectors
  pub none : (kind : Kind) → removed_of kind collectors ≡ 0
  pub fresh : (kind : Kind) → pass (view_in kind collectors) ≡ new_pass

-- an engine for the tables and the sessions of a script
abbrev pub IsOpenedFor : Script → ℕ → Engine → List Session → Collectors → Type 0
IsOpenedFor script buckets e list collectors = IsOpenedWith (sessions_in script) script buckets e list collectors

-- On one thread: the lines are the replies that the logs give, record by record, where no cursor is open at first, and each log
-- gained their entries alone, and then what rolls an open transaction back or closes a cursor. Each collector made a round for each
-- `gc` of its kind, and no other.
pub record HasDrivenOne (z : Sizes) (long : ℕ) (records : List Record) (old : List Session) (before : Collectors) (lines : List Line) (new : List Session) (after : Collectors) : Type 0 where
  pub logs : ℕ → List LogEntry
  pub shape : HasShape records lines
  pub follows : Follows z.buckets (λ _ _ _. ⊤) (logs_of old) (λ j. None) records lines logs
  pub closes : (j : ℕ) → Closes (logs j) (logs_of new j)
  pub rounds : (kind : Kind) → AreRounds (IsRoundBy kind z long) (view_in kind before) (sweeps_of kind lines) (view_in kind after)

-- Concurrently: the lines are those of each session by number, and then those of the group, the table and the interval
-- collector, each of which made so many rounds, and no other.
pub record HasDrivenAll (z : Sizes) (long rounds : ℕ) (records : List Record) (old : List Session) (before : Collectors) (all : List Line) (new : List Session) (after : Collectors) : Type 0 where
  pub lines : ℕ → List Line
  pub sweeps : Kind → List Sweep
  pub told : all ≡ flat_map lines (numbers_from 1 (length old)) ++ (sweep_lines 1 (sweeps Group) ++ (sweep_lines 1 (sweeps Table) ++ sweep_lines 1 (sweeps Interval)))
  pub worked : (j : ℕ) → HasWorked z.buckets (logs_of old j) (of_session j records) (lines j) (logs_of new j)
  pub count : (kind : Kind) → length (sweeps kind) ≡ rounds
  pub made : (kind : Kind) → AreRounds (IsRoundBy kind z long) (view_in kind before) (sweeps kind) (view_in kind after)

-- ---- what every driver needs, and what it leaves

-- A lawful script, and an engine with its tables and at least its sessions. The list has as many sessions as the script, which have
-- done nothing and may run as many statements as the script has of theirs, and the collectors are the engine's.
pub record MayDrive (e : Engine) (script : Script) (list : List Session) (collectors : Collectors) : Type 0 where
  pub lawful : IsLawful script
  pub sessions : length list ≡ max 1 (greatest (map (λ (r : Record). r.session) script.records))
  pub most : length list ≤ (engine_sizes e).sessions
  pub tables : (engine_sizes e).tables ≡ length script.tables
  pub some : 0 < (engine_sizes e).buckets
  pub quota : (j : ℕ) → length (of_session j script.records) ≤ (engine_sizes e).quota
  pub new : EachFrom (IsNewOf e (engine_sizes e).quota) 1 list
  pub collectors_are : AreCollectors e collectors

-- all sessions are back, and none has a transaction or a cursor open
pub record AreBack (e : Engine) (old new : List Session) : Type 0 where
  pub many : length new ≡ length old
  pub closed : EachFrom (IsClosed e) 1 new
  pub cursors : Each (λ s. cursor_of s ≡ None) new

-- what the driver of `run` says, where it drives next to other work
pub record HasDriven (e : Engine) (long rounds : ℕ) (script : Script) (old : List Session) (before : Collectors) (result : Result Shown NoMemory) (new : List Session)
    (after : Collectors) : Type 0 where
  pub driven : IfOk result (λ (t : Shown). HasDrivenAll (engine_sizes e) long rounds script.records old before t.lines new after)
  pub tables : IfOk result (λ (t : Shown). t.tables ≡ script.tables)
  pub back : AreBack e old new
  pub collectors_are : AreCollectors e after
