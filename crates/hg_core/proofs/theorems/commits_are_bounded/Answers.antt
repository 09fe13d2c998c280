use Rattle.hg_core.proofs.Runs.{steady_after}
use Rattle.hg_core.proofs.Alone.{alone_after}
use Rattle.hg_core.proofs.Commits.{commits_most}
use Rattle.hg_core.proofs.theorems.commits_are_bounded.Goals as goal

pub returns-clause-most : goal.returns-clause-most
returns-clause-most c sessions tables buckets passes quota steps r = commits_most _ (steady_after sessions tables buckets passes quota steps r)
    (alone_after sessions tables buckets passes quota steps r)

pub returns-clause-alone : goal.returns-clause-alone
returns-clause-alone c = alone_after
