use Rattle.hg_core.proofs.Writing.{install_kept}
use Rattle.hg_core.proofs.laws.install_keeps.Goals as goal

pub returns : goal.returns
returns c = install_kept
