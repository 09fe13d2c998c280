-- What a clause says of an interval collector.
use Rattle.hg_base.specs.declared.report.Kind.TheVariants.{Interval}
use Rattle.hg_base.specs.declared.report.Report.{Report}
use Rattle.hg_rule.specs.declared.passes.CollectorPass.{CollectorPass}
use Rattle.hg_rule.specs.declared.view.View.{View}
use Rattle.hg_rule.specs.declared.view.Sizes.{Sizes}
use Rattle.hg_rule.specs.Facts.{record_of}
use Rattle.hg_rule.specs.Views.{pass}
use Rattle.hg_rule.specs.Seats.{BoardId}
use Rattle.hg_tracker.specs.Begun.{HasGathered}
use Rattle.hg_rounds.specs.Visits.{VisitsAll}
use Rattle.hg_rounds.specs.Reports.{Reports}
use Rattle.hg_rounds.specs.Rounds as rounds
use Rattle.hg_rounds.specs.Sweeping.{IsCleanBy}
use Rattle.hg_rounds.specs.declared.interval.IntervalCollector.{IntervalCollector}

-- its pass
abbrev pub pass_of : IntervalCollector → CollectorPass
pass_of c = rounds.pass_of c.rounds

-- what its pass sees
abbrev pub view_of : IntervalCollector → View
view_of c = rounds.view_of c.rounds

-- its last report
abbrev pub report_in : IntervalCollector → Report
report_in c = rounds.report_in c.rounds

-- it with another pass
abbrev pub with_pass : IntervalCollector → CollectorPass → IntervalCollector
with_pass c p = record c { rounds = rounds.with_pass c.rounds p }

-- its pass is of this board, and it has room for the board's sessions and tables
abbrev pub IsCollectorOf : BoardId → Sizes → IntervalCollector → Type 0
IsCollectorOf t z c = rounds.AreRoundsOf t z c.rounds

-- One round: a gather, and then one visit of each bucket in order, which gave it back clean for what was gathered. The report is
-- that of the round.
pub record Sweeps (z : Sizes) (v : View) (report : Report) (w : View) : Type 0 where
  pub gathered : View
  pub gathers : HasGathered v z.sessions gathered
  pub visits : VisitsAll Interval (IsCleanBy (record_of (pass gathered))) z.buckets report.removed gathered w
  pub reports : Reports Interval v report w
