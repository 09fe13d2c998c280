use Rattle.hg_core.proofs.Writing.{stamp_kept}
use Rattle.hg_core.proofs.laws.stamp_keeps.Goals as goal

pub returns : goal.returns
returns c = stamp_kept
