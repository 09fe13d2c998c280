use Rattle.std.specs.Prelude.{◌≡◌, ◌≤◌, false, length, vec_capacity}
use Rattle.hg_lock.specs.Locks.{EachFits}
use Rattle.hg_queue.specs.Queues.{IsPassOf, known}
use Rattle.hg_group.specs.Founded.{founding_board_id}
use Rattle.hg_group.specs.Pushing.{PusherFits}
use Rattle.hg_group.proofs.follower.make_pushers.Given as goal

abbrev pub invariant-loop-turn : goal.invariant-loop-turn
invariant-loop-turn l = record {
  line : IsPassOf l.queue l.line × ((known l.line).opens ≡ false) × ((known l.line).leads ≡ false) × ((known l.line).board.id ≡ founding_board_id l.founding.value);
  fit : EachFits (PusherFits l.founding) l.pushers.items;
  count : length l.pushers.items ≡ l.turn;
  room : l.sessions ≤ vec_capacity l.pushers;
}
