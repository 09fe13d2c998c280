use Rattle.std.proofs.Common.{◌≡◌, ◌+◌, ◌≤◌, length}
use Rattle.hg_chains.specs.Merging.{HasPassed}
use Rattle.hg_chain.proofs.Turns.{Turned}
use Rattle.hg_chain.proofs.chain.sweep_all.Given as goal

abbrev pub invariant-loop-rest : goal.invariant-loop-rest
invariant-loop-rest g l = record {
  turned : Turned l.horizon l.snapshots l.fn.versions.items l.versions.items l.rest l.merge.successor;
  passed : HasPassed l.merge.successor l.merge.left l.snapshots;
  within : l.merge.left ≤ length l.snapshots;
  cost : l.steps + l.merge.left + l.rest ≡ l.fn.steps + length l.fn.versions.items + length l.snapshots;
}

abbrev pub decreases-loop-rest : goal.decreases-loop-rest
decreases-loop-rest g l = l.rest
