use Rattle.hg_core.proofs.Runs.{steady_after}
use Rattle.hg_core.proofs.Bounded.{made_most}
use Rattle.hg_core.proofs.theorems.counts_are_bounded.Goals as goal

pub returns : goal.returns
returns c sessions tables buckets passes quota steps r = made_most _ (steady_after sessions tables buckets passes quota steps r)
