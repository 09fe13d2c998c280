-- What a clause says of a table collector.
use Rattle.std.specs.Prelude.{ℕ}
use Rattle.hg_base.specs.declared.report.Kind.TheVariants.{Table}
use Rattle.hg_base.specs.declared.report.Report.{Report}
use Rattle.hg_rule.specs.declared.passes.CollectorPass.{CollectorPass}
use Rattle.hg_rule.specs.declared.view.View.{View}
use Rattle.hg_rule.specs.declared.view.Sizes.{Sizes}
use Rattle.hg_rule.specs.Facts.{record_of}
use Rattle.hg_rule.specs.Views.{pass}
use Rattle.hg_rule.specs.Seats.{BoardId}
use Rattle.hg_tracker.specs.Begun.{HasGathered}
use Rattle.hg_tracker.specs.Gathers.{IsLoaded}
use Rattle.hg_tracker.specs.Tries.{HasMoved}
use Rattle.hg_rounds.specs.Visits.{VisitsAll}
use Rattle.hg_rounds.specs.Reports.{Reports}
use Rattle.hg_rounds.specs.Rounds as rounds
use Rattle.hg_rounds.specs.Cutting.{IsCutBy}
use Rattle.hg_rounds.specs.Moving.{TriesLong}
use Rattle.hg_rounds.specs.declared.table.TableCollector.{TableCollector}

-- its pass
abbrev pub pass_of : TableCollector → CollectorPass
pass_of c = rounds.pass_of c.rounds

-- what its pass sees
abbrev pub view_of : TableCollector → View
view_of c = rounds.view_of c.rounds

-- its last report
abbrev pub report_in : TableCollector → Report
report_in c = rounds.report_in c.rounds

-- it with another pass
abbrev pub with_pass : TableCollector → CollectorPass → TableCollector
with_pass c p = record c { rounds = rounds.with_pass c.rounds p }

-- its pass is of this board, and it has room for the board's sessions and tables
abbrev pub IsCollectorOf : BoardId → Sizes → TableCollector → Type 0
IsCollectorOf t z c = rounds.AreRoundsOf t z c.rounds

-- One round: a gather, a try to move each snapshot that is long in use, and no other; and then one visit of each bucket in order,
-- which gave it back with each table cut at its own bound after the moves. The report is that of the round.
pub record Cuts (z : Sizes) (long : ℕ) (v : View) (report : Report) (w : View) : Type 0 where
  pub gathered : View
  pub gathers : HasGathered v z.sessions gathered
  pub moved : View
  pub count : ℕ
  pub moves : HasMoved gathered long count moved
  pub loaded : IsLoaded z.sessions (pass moved).loaded
  pub visits : VisitsAll Table (IsCutBy (record_of (pass moved))) z.buckets report.removed moved w
  pub reports : Reports Table v report w
  pub tries : TriesLong long reports.steps
