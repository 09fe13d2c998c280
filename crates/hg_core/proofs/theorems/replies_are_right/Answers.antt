use Rattle.hg_core.proofs.Runs.{steady_after}
use Rattle.hg_core.proofs.theorems.replies_are_right.Goals as goal

pub returns : goal.returns
returns c sessions tables buckets passes quota steps r = (steady_after sessions tables buckets passes quota steps r).replies_answer
