use Rattle.hg_core.proofs.Runs.{steady_after}
use Rattle.hg_core.proofs.Counting.{mark_most}
use Rattle.hg_core.proofs.Bounded.{mark_told}
use Rattle.hg_core.proofs.theorems.mark_is_bounded.Goals as goal

pub returns-clause-most : goal.returns-clause-most
returns-clause-most c sessions tables buckets passes quota steps r = mark_most _ (steady_after sessions tables buckets passes quota steps r)

pub returns-clause-told : goal.returns-clause-told
returns-clause-told c sessions tables buckets passes quota steps r = mark_told _ (steady_after sessions tables buckets passes quota steps r)
