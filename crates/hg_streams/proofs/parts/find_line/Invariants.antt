use Rattle.std.proofs.Common.{◌<◌, ℕ}
use Rattle.hg_streams.specs.Parting.{IsLineAt}
use Rattle.hg_streams.proofs.parts.find_line.Given as goal

abbrev pub invariant-loop-k : goal.invariant-loop-k
invariant-loop-k l = (j : ℕ) → j < l.k → ¬ IsLineAt l.bytes j
