-- A pass that holds a bucket of its board.
use Rattle.std.specs.Prelude.{◌≡◌, ◌<◌, IsSome, IsTrue, false}
use Rattle.hg_core.specs.Logs.{is_plain}
use Rattle.hg_core.specs.Phases.{snapshot_in}
use Rattle.hg_rule.specs.declared.board.Board.{Board}
use Rattle.hg_rule.specs.declared.passes.CollectorPass.{CollectorPass}
use Rattle.hg_rule.specs.declared.passes.SessionPass.{SessionPass}
use Rattle.hg_rule.specs.declared.view.SessionPart.{SessionPart}
use Rattle.hg_rule.specs.Seats.{board_id, sizes_of, session_view, pass_view, IsSessionOf, IsAwayOf, IsPassOf}
use Rattle.hg_store.specs.declared.held.Held.{Held}
use Rattle.hg_store.specs.declared.store.Store.{Store}
use Rattle.hg_store.specs.Stores.{store_board_id, store_buckets, held_board_id, held_number, Holds}

-- a session's pass of this board, which holds this bucket
abbrev pub IsHolding : Board → SessionPass → Held → Type 0
IsHolding board pass h = IsSessionOf (board_id board) (sizes_of board) pass × Holds (session_view pass) h

-- a leader's pass of this board, whose own part was handed over, and which holds this bucket
abbrev pub IsLeaderHolding : Board → SessionPass → Held → Type 0
IsLeaderHolding board pass h = IsAwayOf (board_id board) (sizes_of board) pass × Holds (session_view pass) h

-- a collector's pass of this board, which holds this bucket
abbrev pub IsCollectorHolding : Board → CollectorPass → Held → Type 0
IsCollectorHolding board pass h = IsPassOf (board_id board) pass × Holds (pass_view pass) h

-- it is the same bucket of the same board, whatever it keeps
abbrev pub IsSameBucket : Held → Held → Type 0
IsSameBucket old new = (held_board_id new ≡ held_board_id old) × (held_number new ≡ held_number old)

-- a session in a transaction that can go on: it has a snapshot, its log is plain, and nothing of it is stamped
abbrev pub IsInTransaction : SessionPart → Type 0
IsInTransaction s = IsSome (snapshot_in s.phase) × IsTrue (is_plain s.log) × (s.stamped ≡ false)

-- the store has the buckets of this board, all of them
abbrev pub IsStoreOf : Board → Store → Type 0
IsStoreOf board store = (store_board_id store ≡ board_id board) × (0 < store_buckets store) × (store_buckets store ≡ (sizes_of board).buckets)
