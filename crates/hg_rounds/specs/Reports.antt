-- What a round of a collector's pass made of its view, and what its report says.
use Rattle.std.specs.Prelude.{◌≡◌, ℕ, ◌≤◌, List, [], ◌++◌}
use Rattle.hg_base.specs.declared.report.Kind.{Kind}
use Rattle.hg_base.specs.declared.report.Report.{Report}
use Rattle.hg_base.specs.Lists.{Each}
use Rattle.hg_core.specs.Passes.{horizon}
use Rattle.hg_rule.specs.declared.view.PassPart.{PassPart}
use Rattle.hg_rule.specs.declared.view.Event.{Event}
use Rattle.hg_rule.specs.declared.view.View.{View}
use Rattle.hg_rule.specs.Rounds.{IsRoundOf, IsReportOf, entries_of}
use Rattle.hg_rule.specs.Facts.{record_of}
use Rattle.hg_rule.specs.Views.{number, pass}
use Rattle.hg_tracker.specs.Begun.{AtMost}

-- a report of no round yet says nothing, and has room for the entries of so many sessions
pub record IsUnwritten (kind : Kind) (sessions : ℕ) (report : Report) : Type 0 where
  pub kind_is : report.kind ≡ kind
  pub mark_is : report.mark ≡ 0
  pub horizon_is : report.horizon ≡ 0
  pub removed_is : report.removed ≡ 0
  pub entries_are : report.entries.list ≡ []
  pub room : sessions ≤ report.entries.room

-- the report says what a pass's part has of its record, and how many versions went
pub record IsReportBy (kind : Kind) (part : PassPart) (removed : ℕ) (report : Report) : Type 0 where
  pub kind_is : report.kind ≡ kind
  pub mark_is : report.mark ≡ part.mark
  pub horizon_is : report.horizon ≡ horizon (record_of part)
  pub removed_is : report.removed ≡ removed
  pub entries_are : report.entries.list ≡ entries_of part.loaded

-- The pass made these steps more, which are one round of it, and the report is that of the round. Its mark is at or over all
-- that the pass had seen.
pub record Reports (kind : Kind) (v : View) (report : Report) (w : View) : Type 0 where
  pub steps : List Event
  pub events : w.events ≡ v.events ++ steps
  pub round : IsRoundOf (number v) (pass w) steps
  pub report_is : IsReportOf kind steps report
  pub most : Each (AtMost report.mark) v.sights
