-- What a clause says of an engine.
use Rattle.hg_rule.specs.declared.board.Board.{Board}
use Rattle.hg_rule.specs.declared.view.Sizes.{Sizes}
use Rattle.hg_rule.specs.Seats.{BoardId, board_id, sizes_of}
use Rattle.hg_tracker.specs.Boards.{board_of}
use Rattle.hg_group.specs.declared.list.GroupList.{GroupList}
use Rattle.hg_store.specs.declared.store.Store.{Store}
use Rattle.hg_session.specs.declared.engine.Engine.{Engine}

-- the board of an engine
abbrev pub engine_board : Engine → Board
engine_board e = board_of e.shared.value.trackers

-- the identity of an engine's board
abbrev pub engine_board_id : Engine → BoardId
engine_board_id e = board_id (engine_board e)

-- the sizes of an engine's board
abbrev pub engine_sizes : Engine → Sizes
engine_sizes e = sizes_of (engine_board e)

-- its buckets
abbrev pub engine_store : Engine → Store
engine_store e = e.shared.value.store

-- its list of groups
abbrev pub engine_groups : Engine → GroupList
engine_groups e = e.shared.value.groups
