use Rattle.hg_core.proofs.Runs.{steady_after}
use Rattle.hg_core.proofs.Answering.{answered}
use Rattle.hg_core.proofs.theorems.every_answer_is_right.Goals as goal

pub returns : goal.returns
returns c sessions tables buckets passes quota steps r = answered _ (steady_after sessions tables buckets passes quota steps r)
