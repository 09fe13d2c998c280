use Rattle.hg_core.proofs.Begins.{end_kept}
use Rattle.hg_core.proofs.laws.end_keeps.Goals as goal

pub returns : goal.returns
returns c = end_kept
