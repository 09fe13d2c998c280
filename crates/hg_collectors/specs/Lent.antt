-- What a clause says of what an engine lends.
use Rattle.hg_rule.specs.declared.board.Board.{Board}
use Rattle.hg_rule.specs.declared.view.Sizes.{Sizes}
use Rattle.hg_rule.specs.Seats.{BoardId, board_id, sizes_of}
use Rattle.hg_tracker.specs.Boards.{board_of}
use Rattle.hg_collectors.specs.declared.lent.Lent.{Lent}

-- the board of what an engine lends
abbrev pub lent_board : Lent → Board
lent_board l = board_of l.trackers.now

-- the identity of that board
abbrev pub lent_board_id : Lent → BoardId
lent_board_id l = board_id (lent_board l)

-- the sizes of that board
abbrev pub lent_sizes : Lent → Sizes
lent_sizes l = sizes_of (lent_board l)
