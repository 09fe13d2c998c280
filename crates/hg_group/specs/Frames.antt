-- What a call of group commit asks for and keeps: that board, store, queue and locks are of one engine, and what a leader's pass is.
use Rattle.std.specs.Prelude.{◌≡◌, ◌<◌, List, length, Option}
use Rattle.hg_rule.specs.declared.board.Board.{Board}
use Rattle.hg_rule.specs.declared.passes.SessionPass.{SessionPass}
use Rattle.hg_rule.specs.declared.view.View.{View}
use Rattle.hg_rule.specs.Views.{number, session}
use Rattle.hg_rule.specs.Holding.{HasCommit}
use Rattle.hg_rule.specs.Seats.{board_id, sizes_of, session_view, IsAwayOf}
use Rattle.hg_store.specs.declared.store.Store.{Store}
use Rattle.hg_store.specs.Passes.{IsStoreOf}
use Rattle.hg_queue.specs.declared.open_tx.OpenTx.{OpenTx}
use Rattle.hg_queue.specs.Handing.{IsOpenTxOf, MayCommit}
use Rattle.hg_queue.specs.Queues.{IsPassOf}
use Rattle.hg_group.specs.declared.book.Batches.{Batches}
use Rattle.hg_group.specs.declared.book.Laid.{Laid}
use Rattle.hg_group.specs.declared.leader.Tools.{Tools}
use Rattle.hg_group.specs.declared.list.GroupList.{GroupList}
use Rattle.hg_group.specs.Batch.{AreLaid}
use Rattle.hg_group.specs.Leading.{IsKept}
use Rattle.hg_group.specs.Lists.{groups_board_id, groups_sessions}

-- ---- of one engine

-- the locks of group commit are of this board, one for each of its sessions
abbrev pub IsListOf : Board → GroupList → Type 0
IsListOf board groups = (groups_board_id groups ≡ board_id board) × (groups_sessions groups ≡ (sizes_of board).sessions)

-- board, store and locks are of one engine
abbrev pub AreOfOne : Board → Store → GroupList → Type 0
AreOfOne board store groups = IsStoreOf board store × IsListOf board groups

-- what lies under the commit lock is of a leader's board, and its right to pop is of the leader's queue
abbrev pub IsKeptFor : Tools → Batches → Type 0
IsKeptFor tools kept = IsKept (board_id tools.board.now) (sizes_of tools.board.now).sessions kept × IsPassOf tools.queue.now kept.book.value.line

-- ---- a session and its transaction

-- the open transaction of the session in this view, which wrote a record and may commit
abbrev pub IsToCommit : View → OpenTx → Type 0
IsToCommit v tx = MayCommit (session v) × IsOpenTxOf (number v) (session v) tx × (0 < length tx.records.list)

-- it is still a pass of this board whose own part was handed over, of the same session
abbrev pub IsStillAway : Board → SessionPass → SessionPass → Type 0
IsStillAway board old new = IsAwayOf (board_id board) (sizes_of board) new × (new.number ≡ old.number)

-- a leader's pass of this board, which has the committer's part
abbrev pub IsLeading : Board → SessionPass → Type 0
IsLeading board pass = IsAwayOf (board_id board) (sizes_of board) pass × HasCommit (session_view pass)

-- a place for each session of the board, with what is laid for it, or nothing
abbrev pub HasPlaces : Board → List (Option Laid) → Type 0
HasPlaces board laid = AreLaid (board_id board) 1 laid × (length laid ≡ (sizes_of board).sessions)
