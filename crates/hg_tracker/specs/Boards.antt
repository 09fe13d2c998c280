-- The board of the trackers.
use Rattle.hg_rule.specs.Seats.{BoardId, board_id, sizes_of}
use Rattle.hg_rule.specs.declared.board.Board.{Board}
use Rattle.hg_rule.specs.declared.view.Sizes.{Sizes}
use Rattle.hg_tracker.specs.declared.trackers.Trackers.{Trackers}

-- the board of the trackers
abbrev pub board_of : Trackers → Board
board_of t = t.board

-- the identity of the trackers' board
abbrev pub trackers_board_id : Trackers → BoardId
trackers_board_id t = board_id t.board

-- the sizes of the trackers' board
abbrev pub board_sizes : Trackers → Sizes
board_sizes t = sizes_of t.board
