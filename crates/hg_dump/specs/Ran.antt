-- What a run knows at its end, where one more session has read all tables.
use Rattle.std.specs.Prelude.{◌≡◌, ℕ, ◌<◌, ◌≤◌, List, [], ◌++◌, length, None}
use Rattle.hg_base.specs.declared.report.Kind.TheVariants as kinds
use Rattle.hg_base.specs.declared.report.Report.{Report}
use Rattle.hg_base.specs.declared.statement.Record.{Record}
use Rattle.hg_base.specs.declared.line.Line.{Line}
use Rattle.hg_base.specs.Lists.{Each}
use Rattle.hg_base.specs.Script.{Script}
use Rattle.hg_base.specs.History.{History}
use Rattle.hg_base.specs.Shape.{HasShape}
use Rattle.hg_base.specs.Transcript.{of_session}
use Rattle.hg_core.specs.declared.log.LogEntry.{LogEntry}
use Rattle.hg_core.specs.Events.{put}
use Rattle.hg_core.specs.Reading.{Tells}
use Rattle.hg_headline.specs.Logged.{Logged}
use Rattle.hg_headline.specs.Ran.{LeavesGc, AreReports}
use Rattle.hg_dump.specs.Reader.{reader_of, HasReadAll}

-- The logs are those before the last rollbacks. The reader's log was `before` when the last collector had made its last round, and
-- it had read at `ats` then; by the end it had read at `later` too. What a collector reports is in the logs as they were.
pub record HasRunWith (buckets : ℕ) (h : History) (logs : ℕ → List LogEntry) (rounds : ℕ) (script : Script) (ats : List ℕ) (lines : ℕ → List Line) (group table interval : List Report) : Type 0 where
  pub logged : Logged buckets h logs
  pub numbered : Each (λ (r : Record). 1 ≤ r.session) script.records
  pub shape : (j : ℕ) → HasShape (of_session j script.records) (lines j)
  pub tells : (j : ℕ) → (j ≡ reader_of script → ⊥) → Tells buckets (λ r line. LeavesGc r.statement line.reply.answer) [] None (of_session j script.records) (lines j) (logs j)
  pub some : 0 < length ats
  pub before : List LogEntry
  pub read : HasReadAll ats before
  pub later : List ℕ
  pub ended : HasReadAll (ats ++ later) (logs (reader_of script))
  pub of_group : AreReports h (put logs (reader_of script) before) kinds.Group rounds group
  pub of_table : AreReports h (put logs (reader_of script) before) kinds.Table rounds table
  pub of_interval : AreReports h (put logs (reader_of script) before) kinds.Interval rounds interval
