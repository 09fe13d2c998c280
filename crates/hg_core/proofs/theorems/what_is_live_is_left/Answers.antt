use Rattle.std.proofs.Common.{subst}
use Rattle.hg_core.specs.Registers.{Shows}
use Rattle.hg_core.specs.State.{opened}
use Rattle.hg_core.specs.Steps.{run}
use Rattle.hg_core.proofs.Runs.{steady_after}
use Rattle.hg_core.proofs.Settling.{idle_table, idle_group, none_unpublished, live_left}
use Rattle.hg_core.proofs.Remaining.{rows_left}
use Rattle.hg_core.proofs.theorems.what_is_live_is_left.Goals as goal

pub returns-clause-table : goal.returns-clause-table
returns-clause-table c = idle_table

pub returns-clause-group : goal.returns-clause-group
returns-clause-group c = idle_group

pub returns-clause-idle : goal.returns-clause-idle
returns-clause-idle c sessions tables buckets passes quota steps r j rests = let s = run (opened sessions tables buckets passes quota) steps in
    subst (λ p. Shows p (s.register j)) rests ((steady_after sessions tables buckets passes quota steps r).registers_agree.shows j)

pub returns-clause-rest : goal.returns-clause-rest
returns-clause-rest c sessions tables buckets passes quota steps r = none_unpublished _ (steady_after sessions tables buckets passes quota steps r)

pub returns-clause-left : goal.returns-clause-left
returns-clause-left c sessions tables buckets passes quota steps r = live_left _ (steady_after sessions tables buckets passes quota steps r)

pub returns-clause-bucket : goal.returns-clause-bucket
returns-clause-bucket c sessions tables buckets passes quota steps r = rows_left _ (steady_after sessions tables buckets passes quota steps r)
