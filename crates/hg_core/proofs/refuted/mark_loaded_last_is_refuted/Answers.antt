use Rattle.hg_core.proofs.Refused.{mark_last_refused}
use Rattle.hg_core.proofs.refuted.mark_loaded_last_is_refuted.Goals as goal

pub returns : goal.returns
returns c = mark_last_refused
