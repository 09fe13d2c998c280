use Rattle.hg_core.proofs.Gathers.{sample_kept}
use Rattle.hg_core.proofs.laws.sample_keeps.Goals as goal

pub returns : goal.returns
returns c = sample_kept
