use Rattle.hg_core.proofs.Runs.{reached_next, reached_steady}
use Rattle.hg_core.proofs.laws.each_is_reached.Goals as goal

pub returns-clause-next : goal.returns-clause-next
returns-clause-next c = reached_next

pub returns-clause-steady : goal.returns-clause-steady
returns-clause-steady c = reached_steady
