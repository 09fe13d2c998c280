use Rattle.std.proofs.Common.{◌≡◌, ◌+◌, ◌≤◌, drop}
use Rattle.hg_base.specs.Lists.{Each}
use Rattle.hg_chains.proofs.merge.pass_from.Given as goal

abbrev pub invariant-loop-left : goal.invariant-loop-left
invariant-loop-left g l = record {
  within : l.left ≤ l.fn.left;
  passed : Each (λ s. l.up ≤ s) (drop l.left l.snapshots);
  cost : l.steps + l.left ≡ l.fn.steps + l.fn.left;
}

abbrev pub decreases-loop-left : goal.decreases-loop-left
decreases-loop-left g l = l.left
