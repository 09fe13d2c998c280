use Rattle.hg_core.proofs.Reclaiming.{reclaim_kept}
use Rattle.hg_core.proofs.laws.reclaim_keeps.Goals as goal

pub returns : goal.returns
returns c = reclaim_kept
