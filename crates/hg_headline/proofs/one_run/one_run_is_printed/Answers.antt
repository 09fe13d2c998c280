use Rattle.std.specs.Prelude.{⊤}
use Rattle.hg_headline.specs.Ran.{LeavesGc}
use Rattle.hg_headline.proofs.RunsEnd.{always_totals, replay_run, run_run}
use Rattle.hg_headline.proofs.one_run.one_run_is_printed.Goals as goal

pub returns-clause-replay : goal.returns-clause-replay
returns-clause-replay c = replay_run (λ logs r line. ⊤)

pub returns-clause-run : goal.returns-clause-run
returns-clause-run c = run_run (λ r line. LeavesGc r.statement line.reply.answer)

pub returns-clause-totals : goal.returns-clause-totals
returns-clause-totals c = always_totals
