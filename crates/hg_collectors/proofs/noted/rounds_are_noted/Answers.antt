use Rattle.hg_collectors.proofs.AllNoted.{rounds_noted}
use Rattle.hg_collectors.proofs.noted.rounds_are_noted.Goals as goal

pub returns : goal.returns
returns c = rounds_noted
