use Rattle.hg_core.proofs.Gathers.{take_kept}
use Rattle.hg_core.proofs.laws.take_keeps.Goals as goal

pub returns : goal.returns
returns c = take_kept
