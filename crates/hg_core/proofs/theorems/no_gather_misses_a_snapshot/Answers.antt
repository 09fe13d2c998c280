use Rattle.hg_core.proofs.Runs.{steady_after}
use Rattle.hg_core.proofs.Fences.{misses_none, fixed_fenced, table_below, group_below}
use Rattle.hg_core.proofs.theorems.no_gather_misses_a_snapshot.Goals as goal

pub returns-clause-live : goal.returns-clause-live
returns-clause-live c sessions tables buckets passes quota steps r p = misses_none _ p (steady_after sessions tables buckets passes quota steps r)

pub returns-clause-fixed : goal.returns-clause-fixed
returns-clause-fixed c sessions tables buckets passes quota steps r p j f m scope = fixed_fenced _ p j f m scope (steady_after sessions tables buckets passes quota steps r)

pub returns-clause-table : goal.returns-clause-table
returns-clause-table c sessions tables buckets passes quota steps r p j at scope t = table_below _ p j at scope t (steady_after sessions tables buckets passes quota steps r)

pub returns-clause-group : goal.returns-clause-group
returns-clause-group c sessions tables buckets passes quota steps r p j at scope = group_below _ p j at scope (steady_after sessions tables buckets passes quota steps r)
