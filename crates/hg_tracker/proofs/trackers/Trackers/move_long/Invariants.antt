use Rattle.std.proofs.Common.{◌≡◌, ◌≤◌, length, take, drop, filter}
use Rattle.hg_rule.specs.Views.{pass}
use Rattle.hg_rule.specs.Seats.{pass_view, IsPassOf}
use Rattle.hg_tracker.specs.Gathers.{IsMadeFor, IsNotedOf, IsLoaded}
use Rattle.hg_tracker.specs.Tries.{is_long, HasTried}
use Rattle.hg_tracker.specs.Boards.{trackers_board_id, board_sizes}
use Rattle.hg_tracker.proofs.trackers.Trackers.move_long.Given as goal

abbrev pub invariant-loop-position : goal.invariant-loop-position
invariant-loop-position l =
    HasTried (pass_view l.fn.pass) (filter (is_long (pass (pass_view l.fn.pass)).mark l.fn.long) (take l.position l.fn.gathered.entries.items)) l.count (pass_view l.pass)
    × IsNotedOf (pass (pass_view l.pass)).mark (pass (pass_view l.pass)).loaded l.gathered
    × IsLoaded (board_sizes l.fn.self).sessions (pass (pass_view l.pass)).loaded
    × (drop l.position l.gathered.entries.items ≡ drop l.position l.fn.gathered.entries.items)
    × (length l.gathered.entries.items ≡ length l.fn.gathered.entries.items)
    × IsMadeFor (board_sizes l.fn.self).sessions (board_sizes l.fn.self).tables l.gathered
    × IsPassOf (trackers_board_id l.fn.self) l.pass
    × (l.count ≤ l.position)
