use Rattle.hg_core.proofs.Gathers.{mark_kept}
use Rattle.hg_core.proofs.laws.mark_keeps.Goals as goal

pub returns : goal.returns
returns c = mark_kept
