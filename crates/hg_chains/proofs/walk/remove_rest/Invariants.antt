use Rattle.std.proofs.Common.{◌≡◌, ◌+◌, ◌++◌, take, drop}
use Rattle.hg_chains.specs.Arenas.{IsArena, IsAt, FrontsStay, NodesStay, OthersStayIn, tail_in}
use Rattle.hg_chains.proofs.walk.remove_rest.Given as goal

abbrev pub invariant-loop-version : goal.invariant-loop-version
invariant-loop-version l = record {
  arena : IsArena l.arena;
  at : IsAt l.arena l.place l.cursor;
  kept : l.cursor.kept ≡ l.fn.cursor.kept;
  left : tail_in l.arena l.place ≡ take l.cursor.kept (tail_in l.fn.arena l.place) ++ drop (l.cursor.kept + l._version) (tail_in l.fn.arena l.place);
  fronts : FrontsStay l.fn.arena l.arena;
  others : OthersStayIn l.place l.fn.arena l.arena;
  nodes : NodesStay l.fn.arena l.arena;
}
