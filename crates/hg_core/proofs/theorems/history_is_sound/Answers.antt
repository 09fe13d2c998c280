use Rattle.hg_core.proofs.Runs.{steady_after}
use Rattle.hg_core.proofs.theorems.history_is_sound.Goals as goal

pub returns-clause-kept : goal.returns-clause-kept
returns-clause-kept c sessions tables buckets passes quota steps r = (steady_after sessions tables buckets passes quota steps r).no_update_is_lost

pub returns-clause-groups : goal.returns-clause-groups
returns-clause-groups c sessions tables buckets passes quota steps r = (steady_after sessions tables buckets passes quota steps r).history
