use Rattle.hg_core.proofs.Gathers.{sample_mask_kept}
use Rattle.hg_core.proofs.laws.sample_mask_keeps.Goals as goal

pub returns : goal.returns
returns c = sample_mask_kept
