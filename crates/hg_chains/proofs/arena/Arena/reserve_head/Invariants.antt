use Rattle.std.proofs.Common.{◌≡◌, ◌+◌, ◌-◌, ◌≤◌}
use Rattle.std.specs.Prelude.{vec_len, vec_capacity}
use Rattle.hg_chains.proofs.Rooms.{padded}
use Rattle.hg_chains.proofs.arena.Arena.reserve_head.Given as goal

abbrev pub invariant-loop-head : goal.invariant-loop-head
invariant-loop-head l = record {
  heads : l.self.heads.items ≡ padded l.fn.self.heads.items l._head;
  nodes : l.self.nodes ≡ l.fn.self.nodes;
  free : l.self.free ≡ l.fn.self.free;
  room : vec_len l.self.heads + (l.more - l._head) ≤ vec_capacity l.self.heads;
}
