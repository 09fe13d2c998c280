use Rattle.hg_core.proofs.Gathers.{move_kept}
use Rattle.hg_core.proofs.laws.move_keeps.Goals as goal

pub returns : goal.returns
returns c = move_kept
