-- What a clause says of a group collector.
use Rattle.std.specs.Prelude.{◌≡◌, vec_capacity}
use Rattle.hg_base.specs.declared.report.Kind.TheVariants.{Group}
use Rattle.hg_base.specs.declared.report.Report.{Report}
use Rattle.hg_core.specs.Passes.{group_bound}
use Rattle.hg_rule.specs.declared.passes.CollectorPass.{CollectorPass}
use Rattle.hg_rule.specs.declared.view.View.{View}
use Rattle.hg_rule.specs.declared.view.Sizes.{Sizes}
use Rattle.hg_rule.specs.Facts.{record_of}
use Rattle.hg_rule.specs.Views.{pass}
use Rattle.hg_rule.specs.Seats.{BoardId}
use Rattle.hg_tracker.specs.Begun.{HasGathered}
use Rattle.hg_rounds.specs.Reports.{Reports}
use Rattle.hg_rounds.specs.Rounds as rounds
use Rattle.hg_collectors.specs.Taking.{TakesAll}
use Rattle.hg_collectors.specs.declared.group.GroupCollector.{GroupCollector}
use Rattle.hg_collectors.specs.declared.group.TheConstants.{ROOM}

-- its pass
abbrev pub pass_of : GroupCollector → CollectorPass
pass_of c = rounds.pass_of c.rounds

-- what its pass sees
abbrev pub view_of : GroupCollector → View
view_of c = rounds.view_of c.rounds

-- its last report
abbrev pub report_in : GroupCollector → Report
report_in c = rounds.report_in c.rounds

-- it with another pass
abbrev pub with_pass : GroupCollector → CollectorPass → GroupCollector
with_pass c p = record c { rounds = rounds.with_pass c.rounds p }

-- Its pass is of this board, and it has room for the board's sessions and tables. So many records of groups are taken together.
abbrev pub IsCollectorOf : BoardId → Sizes → GroupCollector → Type 0
IsCollectorOf t z c = rounds.AreRoundsOf t z c.rounds × (vec_capacity c.rids ≡ ROOM)

-- One round: a gather, and then groups were taken until as many as the bound of its record were, and their records cut at that
-- bound. The report is that of the round.
pub record Collects (z : Sizes) (v : View) (report : Report) (w : View) : Type 0 where
  pub gathered : View
  pub gathers : HasGathered v z.sessions gathered
  pub takes : TakesAll z.buckets (group_bound (record_of (pass gathered))) gathered report.removed w
  pub reports : Reports Group v report w
