use Rattle.std.proofs.Common.{◌≤◌, ◌+◌, length}
use Rattle.hg_base.specs.declared.limits.TheConstants.{MOST_RECORDS}
use Rattle.hg_run.proofs.Working.{IsRunning}
use Rattle.hg_run.proofs.work.Worker.run.Given as goal

abbrev pub invariant-loop-number : goal.invariant-loop-number
invariant-loop-number g l = IsRunning l.engine l.fn.self l.self × (l.number + length l.self.records ≤ MOST_RECORDS + 1)

abbrev pub decreases-loop-number : goal.decreases-loop-number
decreases-loop-number g l = length l.self.records
