use Rattle.hg_core.proofs.Begins.{declare_kept}
use Rattle.hg_core.proofs.laws.declare_keeps.Goals as goal

pub returns : goal.returns
returns c = declare_kept
