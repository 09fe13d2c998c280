use Rattle.std.proofs.Common.{◌≡◌, ◌+◌, ◌-◌, ◌≤◌, false, take}
use Rattle.hg_base.specs.Lists.{Each}
use Rattle.hg_chains.specs.Versions.{is_at_most}
use Rattle.hg_chains.specs.Arenas.{IsAt, tail_in}
use Rattle.hg_chains.proofs.arena.Arena.passed.Given as goal

abbrev pub invariant-loop-strand : goal.invariant-loop-strand
invariant-loop-strand g l = record {
  at : IsAt l.self l.place l.cursor;
  within : l.cursor.kept ≤ l.strand.count;
  newer : Each (λ v. is_at_most l.bound v ≡ false) (take l.cursor.kept (tail_in l.self l.place));
  cost : l.steps + l.fn.start.kept ≡ l.fn.steps + l.cursor.kept;
}

abbrev pub decreases-loop-strand : goal.decreases-loop-strand
decreases-loop-strand g l = l.strand.count - l.cursor.kept
