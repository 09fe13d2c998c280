use Rattle.hg_core.proofs.Looking.{look_kept}
use Rattle.hg_core.proofs.laws.look_keeps.Goals as goal

pub returns : goal.returns
returns c = look_kept
