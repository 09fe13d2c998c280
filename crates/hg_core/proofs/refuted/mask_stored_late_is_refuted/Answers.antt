use Rattle.hg_core.proofs.Refused.{stored_late_refused}
use Rattle.hg_core.proofs.refuted.mask_stored_late_is_refuted.Goals as goal

pub returns : goal.returns
returns c = stored_late_refused
