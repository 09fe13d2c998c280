use Rattle.hg_core.proofs.Runs.{steady_after}
use Rattle.hg_core.proofs.theorems.counters_balance.Goals as goal

pub returns : goal.returns
returns c sessions tables buckets passes quota steps r = (steady_after sessions tables buckets passes quota steps r).counters_balance
