use Rattle.hg_core.proofs.Begins.{enter_kept}
use Rattle.hg_core.proofs.laws.enter_keeps.Goals as goal

pub returns : goal.returns
returns c = enter_kept
