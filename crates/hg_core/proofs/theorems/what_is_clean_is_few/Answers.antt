use Rattle.hg_core.proofs.Runs.{steady_after}
use Rattle.hg_core.proofs.Few.{few_held, all_few}
use Rattle.hg_core.proofs.theorems.what_is_clean_is_few.Goals as goal

pub returns-clause-record : goal.returns-clause-record
returns-clause-record c sessions tables buckets passes quota steps r n rid = few_held _ n rid (steady_after sessions tables buckets passes quota steps r)

pub returns-clause-all : goal.returns-clause-all
returns-clause-all c sessions tables buckets passes quota steps r n records = all_few _ n records (steady_after sessions tables buckets passes quota steps r)
