use Rattle.std.specs.Prelude.{◌≡◌, ◌≤◌, ℕ, length, vec_capacity}
use Rattle.hg_rule.specs.Seats.{BoardId}
use Rattle.hg_group.specs.Batch.{AreLaid}
use Rattle.hg_group.proofs.book.empty_places.Given as goal

abbrev pub invariant-loop-turn : goal.invariant-loop-turn
invariant-loop-turn l = record {
  laid : (t : BoardId) (k : ℕ) → AreLaid t k l.places.items;
  count : length l.places.items ≡ l.turn;
  room : l.sessions ≤ vec_capacity l.places;
}
