use Rattle.hg_rule.specs.Views.{pass}
use Rattle.hg_rule.specs.Seats.{pass_view, IsPassOf}
use Rattle.hg_tracker.specs.Gathers.{IsMadeFor, IsNotedOf}
use Rattle.hg_tracker.specs.Begun.{HasLoaded}
use Rattle.hg_tracker.specs.Boards.{trackers_board_id, board_sizes}
use Rattle.hg_tracker.proofs.trackers.Trackers.gather.Given as goal

abbrev pub invariant-loop-j : goal.invariant-loop-j
invariant-loop-j l =
    HasLoaded (pass_view l.fn.pass) l.mark l.j (pass (pass_view l.pass)).loaded (pass_view l.pass)
    × IsNotedOf l.mark (pass (pass_view l.pass)).loaded l.into
    × IsMadeFor (board_sizes l.fn.self).sessions (board_sizes l.fn.self).tables l.into
    × IsPassOf (trackers_board_id l.fn.self) l.pass
