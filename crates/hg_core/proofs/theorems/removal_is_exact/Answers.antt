use Rattle.hg_core.proofs.Runs.{steady_after}
use Rattle.hg_core.proofs.Exact.{group_left, table_left, interval_left, group_exactly, table_exactly, interval_exactly}
use Rattle.hg_core.proofs.theorems.removal_is_exact.Goals as goal

pub returns-clause-group : goal.returns-clause-group
returns-clause-group c sessions tables buckets passes quota steps r p rid may = group_left _ p rid (steady_after sessions tables buckets passes quota steps r)

pub returns-clause-table : goal.returns-clause-table
returns-clause-table c sessions tables buckets passes quota steps r p rid may = table_left _ p rid (steady_after sessions tables buckets passes quota steps r)

pub returns-clause-interval : goal.returns-clause-interval
returns-clause-interval c sessions tables buckets passes quota steps r p rid may = interval_left _ p rid (steady_after sessions tables buckets passes quota steps r)

pub returns-clause-by_group : goal.returns-clause-by_group
returns-clause-by_group c sessions tables buckets passes quota steps r p rid = group_exactly _ p rid (steady_after sessions tables buckets passes quota steps r)

pub returns-clause-by_table : goal.returns-clause-by_table
returns-clause-by_table c sessions tables buckets passes quota steps r p rid = table_exactly _ p rid (steady_after sessions tables buckets passes quota steps r)

pub returns-clause-by_interval : goal.returns-clause-by_interval
returns-clause-by_interval c sessions tables buckets passes quota steps r p rid = interval_exactly _ p rid (steady_after sessions tables buckets passes quota steps r)
