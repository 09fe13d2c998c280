use Rattle.std.proofs.Common.{◌≤◌, List, length}
use Rattle.hg_base.specs.Transcript.{Said}
use Rattle.hg_known.specs.Before.{AreBefore}
use Rattle.hg_audit.proofs.Opening.{SameUpTo}
use Rattle.hg_audit.proofs.freshness.are_open.Given as goal

abbrev pub invariant-loop-j : goal.invariant-loop-j
invariant-loop-j l = record {
  within : l.told ≤ length l.held;
  same : (earlier : List Said) → AreBefore l.before earlier → SameUpTo earlier l.held l.told l.j;
}
