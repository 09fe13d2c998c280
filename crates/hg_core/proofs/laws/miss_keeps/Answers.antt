use Rattle.hg_core.proofs.Gathers.{miss_kept}
use Rattle.hg_core.proofs.laws.miss_keeps.Goals as goal

pub returns : goal.returns
returns c = miss_kept
