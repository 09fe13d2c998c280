use Rattle.hg_core.proofs.Refused.{loaded_first_refused}
use Rattle.hg_core.proofs.refuted.mask_loaded_first_is_refuted.Goals as goal

pub returns : goal.returns
returns c = loaded_first_refused
