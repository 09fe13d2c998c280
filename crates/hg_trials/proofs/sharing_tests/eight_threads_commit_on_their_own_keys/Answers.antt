use Rattle.std.proofs.Common.{rules, arith}
use Rattle.hg_rule.specs.New.{EachFrom}
use Rattle.hg_session.specs.Opened.{IsNewOf}
use Rattle.hg_session.proofs.Rested.{may_run}
use Rattle.hg_trials.proofs.sharing_tests.eight_threads_commit_on_their_own_keys.Goals as goal

pub commit_beside-requires-clause-ready : goal.commit_beside-requires-clause-ready
commit_beside-requires-clause-ready g c =
    let row : EachFrom (IsNewOf c.in-Ok.engine 400) 1 c.as_mut_slice-all.result.now = search rules in
    λ lifetimes. may_run c.in-Ok.engine 400 400 1 c.as_mut_slice-all.result.now (omega arith) row
