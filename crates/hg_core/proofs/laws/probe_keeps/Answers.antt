use Rattle.hg_core.proofs.Begins.{probe_kept}
use Rattle.hg_core.proofs.laws.probe_keeps.Goals as goal

pub returns : goal.returns
returns c = probe_kept
