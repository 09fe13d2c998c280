use Rattle.hg_base.specs.declared.report.Kind.TheVariants.{Interval}
use Rattle.hg_rule.specs.Facts.{record_of}
use Rattle.hg_rule.specs.Views.{pass as own_pass}
use Rattle.hg_rule.specs.Seats.{pass_view, IsPassOf}
use Rattle.hg_tracker.specs.Boards.{trackers_board_id, board_sizes}
use Rattle.hg_tracker.specs.Gathers.{IsGatherOf}
use Rattle.hg_rounds.specs.Visits.{VisitsAll}
use Rattle.hg_rounds.specs.Sweeping.{IsCleanBy}
use Rattle.hg_rounds.specs.Costs.{VisitsCost}
use Rattle.hg_rounds.proofs.interval.visit_all.Given as goal

abbrev pub invariant-loop-b : goal.invariant-loop-b
invariant-loop-b g l =
    VisitsAll Interval (IsCleanBy (record_of (own_pass (pass_view l.fn.pass)))) l.b l.gone (pass_view l.fn.pass) (pass_view l.pass)
    × IsPassOf (trackers_board_id l.tools.trackers.now) l.pass
    × IsGatherOf (board_sizes l.tools.trackers.now).sessions (own_pass (pass_view l.pass)) l.tools.gathered.now
    × VisitsCost (board_sizes l.tools.trackers.now) (record_of (own_pass (pass_view l.fn.pass))) l.b l.fn.steps l.steps
