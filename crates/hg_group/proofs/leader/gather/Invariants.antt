use Rattle.std.specs.Prelude.{◌≡◌, ◌≤◌, true, false, length, vec_capacity}
use Rattle.hg_rule.specs.Seats.{board_id, sizes_of, session_view, IsAwayOf}
use Rattle.hg_queue.specs.Queues.{IsPassOf, known}
use Rattle.hg_group.specs.Batch.{Gathers}
use Rattle.hg_group.proofs.leader.gather.Given as goal

-- what was popped so far is with the pass
abbrev pub invariant-loop-turn : goal.invariant-loop-turn
invariant-loop-turn g l = record {
  gathered : Gathers (session_view l.fn.pass) (known l.fn.line).pairs l.popped.items (known l.line).pairs (session_view l.pass);
  own : IsAwayOf (board_id l.tools.board.now) (sizes_of l.tools.board.now) l.pass × (l.pass.number ≡ l.fn.pass.number);
  line : IsPassOf l.tools.queue.now l.line × ((known l.line).opens ≡ false) × ((known l.line).leads ≡ true) × ((known l.line).board.id ≡ board_id l.tools.board.now);
  room : (length l.popped.items ≤ l.turn) × (vec_capacity l.popped ≡ vec_capacity l.fn.popped);
}
