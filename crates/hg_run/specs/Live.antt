-- What one thread knows between two statements of a conversation, whose records come one at a time and are not kept.
use Rattle.std.specs.Prelude.{ℕ, ◌-◌, ◌≤◌, List, [], length, None, is_some}
use Rattle.hg_base.specs.declared.line.Line.{Line}
use Rattle.hg_base.specs.declared.statement.Record.{Record}
use Rattle.hg_base.specs.declared.statement.Statement.{Statement}
use Rattle.hg_base.specs.Transcript.{of_session}
use Rattle.hg_core.specs.declared.log.LogEntry.{LogEntry}
use Rattle.hg_core.specs.Logs.{current}
use Rattle.hg_core.specs.Reading.{Follows, left_after}
use Rattle.hg_core.specs.Shown.{ShowsFirsts}
use Rattle.hg_rule.specs.declared.view.Sizes.{Sizes}
use Rattle.hg_headline.specs.Following.{IsFollowing}
use Rattle.hg_script.specs.Lawful.{MayStand}
use Rattle.hg_script.specs.Rules.{is_open, is_reading}
use Rattle.hg_session.specs.declared.engine.Engine.{Engine}
use Rattle.hg_session.specs.declared.session.Session.{Session}
use Rattle.hg_session.specs.Engines.{engine_sizes}
use Rattle.hg_session.specs.Finished.{logs_of}
use Rattle.hg_exact.specs.Opening.{AreOpen}
use Rattle.hg_run.specs.Asked.{IsOnTables}
use Rattle.hg_run.specs.Caught.{HasCaughtUp}
use Rattle.hg_run.specs.Listed.{AreReady, HaveCursors, SawAt, none_left}
use Rattle.hg_run.specs.Unsaid.{LeavesUnsaid}

-- how many statements each session has left, after these records
abbrev pub left_in : Sizes → List Record → ℕ → ℕ
left_in z records j = z.quota - length (of_session j records)

-- These records were answered by these lines, and the session at `last` ran last. The lines follow the logs, and each write's line shows its
-- first cause, once that session has heard no log further than it stands.
pub record IsLive (e : Engine) (list : List Session) (last : ℕ) (records : List Record) (lines : List Line) : Type 0 where
  pub seen : ℕ
  pub top : ℕ
  pub following : IsFollowing (engine_sizes e).buckets (engine_sizes e).sessions (logs_of list) seen top records lines
  pub firsts : HasCaughtUp last list → Follows (engine_sizes e).buckets ShowsFirsts (λ j. []) (λ j. None) records lines (logs_of list)
  pub opened : (j : ℕ) → AreOpen (is_open j records) (is_reading j records) (is_some (current (logs_of list j)))
  pub cursors : HaveCursors (λ j. is_reading j records) (left_after (λ j. None) records lines) list
  pub ready : AreReady e last (left_in (engine_sizes e) records) list
  pub saw : SawAt seen last list

-- So it was when the logs were these, and the session at `last` had seen as many groups. Each log has gained since at most what a statement
-- leaves at which memory ran out, and no line tells that.
pub record HasStopped (e : Engine) (list : List Session) (last : ℕ) (records : List Record) (lines : List Line) : Type 0 where
  pub logs : ℕ → List LogEntry
  pub unsaid : (j : ℕ) → LeavesUnsaid (logs j) (logs_of list j)
  pub seen : ℕ
  pub top : ℕ
  pub following : IsFollowing (engine_sizes e).buckets (engine_sizes e).sessions logs seen top records lines
  pub firsts : HasCaughtUp last list → Follows (engine_sizes e).buckets ShowsFirsts (λ j. []) (λ j. None) records lines logs
  pub ready : AreReady e last none_left list
  pub saw : SawAt seen last list

-- These records were answered by these lines, and a statement of session j may come next.
pub record MayCome (e : Engine) (list : List Session) (last j : ℕ) (statement : Statement) : Type 0 where
  pub records : List Record
  pub lines : List Line
  pub live : IsLive e list last records lines
  pub first : 1 ≤ j
  pub most : j ≤ (engine_sizes e).sessions
  pub stands : MayStand (is_open j records) (is_reading j records) statement
  pub tables : IsOnTables (engine_sizes e).tables statement
