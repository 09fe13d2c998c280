use Rattle.std.proofs.Common.{◌≡◌, ◌+◌, ◌-◌, ◌≤◌, length}
use Rattle.hg_chains.specs.Merging.{HasPassed}
use Rattle.hg_chains.specs.Strands.{first_number}
use Rattle.hg_chains.specs.Arenas.{IsArena, IsAt, FrontsStay, NodesStay, OthersStayIn, head_in, list_in, tail_in}
use Rattle.hg_chains.proofs.Settling.{Settled}
use Rattle.hg_chains.proofs.walk.sweep_all.Given as goal

abbrev pub invariant-loop-turn : goal.invariant-loop-turn
invariant-loop-turn g l = record {
  arena : IsArena l.arena;
  at : IsAt l.arena l.place l.cursor;
  settled : Settled l.horizon l.snapshots (first_number (head_in l.fn.arena l.place)) (tail_in l.fn.arena l.place) (tail_in l.arena l.place) l.cursor.kept (l.all - l._turn) l.merge.successor;
  fronts : FrontsStay l.fn.arena l.arena;
  others : OthersStayIn l.place l.fn.arena l.arena;
  nodes : NodesStay l.fn.arena l.arena;
  passed : HasPassed l.merge.successor l.merge.left l.snapshots;
  within : l.merge.left ≤ length l.snapshots;
  count : l.all ≡ length (tail_in l.fn.arena l.place);
  most : l.all ≤ length (list_in l.fn.arena l.place);
  few : l.cursor.kept + (l.all - l._turn) ≤ l.all;
  same : l.cursor.kept + (l.all - l._turn) ≡ l.all → l.arena ≡ l.fn.arena;
  cost : l.steps + l.merge.left ≡ l.fn.steps + l._turn + length l.snapshots;
}
