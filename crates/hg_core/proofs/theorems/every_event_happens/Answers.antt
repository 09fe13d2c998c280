use Rattle.hg_core.proofs.Worked.{every_event_runs}
use Rattle.hg_core.proofs.theorems.every_event_happens.Goals as goal

pub returns-clause-run : goal.returns-clause-run
returns-clause-run c = every_event_runs
