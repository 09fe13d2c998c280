use Rattle.std.specs.Prelude.{◌≡◌, ◌+◌, length, vec_capacity}
use Rattle.hg_rule.specs.Seats.{board_id, sizes_of, session_view, IsAwayOf}
use Rattle.hg_group.specs.Batch.{AreLaid, HasBatch}
use Rattle.hg_group.proofs.Back.{Parted}
use Rattle.hg_group.proofs.leader.lay_back.Given as goal

-- what is left of the batch is with the pass still
abbrev pub invariant-loop-turn : goal.invariant-loop-turn
invariant-loop-turn l = record {
  own : IsAwayOf (board_id l.board) (sizes_of l.board) l.pass × (l.pass.number ≡ l.fn.pass.number);
  laid : AreLaid (board_id l.board) 1 l.laid.items × (length l.laid.items ≡ (sizes_of l.board).sessions);
  batch : HasBatch (sizes_of l.board).sessions (session_view l.pass) l.popped.items;
  parted : Parted (session_view l.fn.pass) l.fn.popped.items (session_view l.pass) l.popped.items;
  left : l.turn + length l.popped.items ≡ length l.fn.popped.items;
  room : vec_capacity l.popped ≡ vec_capacity l.fn.popped;
}
