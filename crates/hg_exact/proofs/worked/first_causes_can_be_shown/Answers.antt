use Rattle.hg_exact.proofs.Conflict.{shown}
use Rattle.hg_exact.proofs.worked.first_causes_can_be_shown.Goals as goal

pub returns : goal.returns
returns c = (shown.logs, shown.replayed, shown.firsts)
