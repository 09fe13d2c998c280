use Rattle.hg_core.specs.State.{opened}
use Rattle.hg_core.specs.Steps.{run}
use Rattle.hg_core.proofs.Runs.{steady_after}
use Rattle.hg_core.proofs.Earlier.{earlier}
use Rattle.hg_core.proofs.theorems.what_is_open_is_new.Goals as goal

pub returns : goal.returns
returns c sessions tables buckets passes quota steps r j open_ plain = let s = run (opened sessions tables buckets passes quota) steps in
    let h = steady_after sessions tables buckets passes quota steps r in earlier s.history s.log j h.logs_answer.commits plain open_
