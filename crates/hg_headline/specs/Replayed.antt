-- What a replay knows after each record, and so at the end.
use Rattle.std.specs.Prelude.{ℕ, ◌≤◌, List, [], length, None}
use Rattle.hg_base.specs.declared.statement.Record.{Record}
use Rattle.hg_base.specs.declared.line.Line.{Line}
use Rattle.hg_base.specs.Lists.{Each}
use Rattle.hg_base.specs.History.{History}
use Rattle.hg_base.specs.Shape.{HasShape}
use Rattle.hg_core.specs.declared.log.LogEntry.{LogEntry}
use Rattle.hg_core.specs.Reading.{Follows}
use Rattle.hg_headline.specs.Logged.{Logged}
use Rattle.hg_headline.specs.Timely.{Rises}
use Rattle.hg_headline.specs.Met.{IsMet}

-- Of the records so far with their lines, over the history and the logs as they stand: the lines are the replies that the logs
-- give, each shows what is open there, and no number that they print is over top, which is at or below the mark.
pub record HasReplayed (buckets : ℕ) (sessions : ℕ) (h : History) (logs : ℕ → List LogEntry) (top : ℕ) (records : List Record) (lines : List Line) : Type 0 where
  pub logged : Logged buckets h logs
  pub within : Each (λ (r : Record). (1 ≤ r.session) × (r.session ≤ sessions)) records
  pub shape : HasShape records lines
  pub follows : Follows buckets (IsMet sessions) (λ j. []) (λ j. None) records lines logs
  pub rises : Rises 0 records lines top
  pub below : top ≤ length h
