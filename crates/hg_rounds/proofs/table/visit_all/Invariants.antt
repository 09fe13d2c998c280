use Rattle.hg_base.specs.declared.report.Kind.TheVariants.{Table}
use Rattle.hg_rule.specs.Facts.{record_of}
use Rattle.hg_rule.specs.Views.{pass as own_pass}
use Rattle.hg_rule.specs.Seats.{pass_view, IsPassOf}
use Rattle.hg_tracker.specs.Boards.{trackers_board_id, board_sizes}
use Rattle.hg_tracker.specs.Gathers.{IsGatherOf}
use Rattle.hg_rounds.specs.Visits.{VisitsAll}
use Rattle.hg_rounds.specs.Cutting.{IsCutBy}
use Rattle.hg_rounds.proofs.table.visit_all.Given as goal

abbrev pub invariant-loop-b : goal.invariant-loop-b
invariant-loop-b g l =
    VisitsAll Table (IsCutBy (record_of (own_pass (pass_view l.fn.pass)))) l.b l.gone (pass_view l.fn.pass) (pass_view l.pass)
    × IsPassOf (trackers_board_id l.trackers) l.pass
    × IsGatherOf (board_sizes l.trackers).sessions (own_pass (pass_view l.pass)) l.gathered
