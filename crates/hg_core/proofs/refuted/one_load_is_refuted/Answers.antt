use Rattle.hg_core.proofs.Refused.{one_load_refused}
use Rattle.hg_core.proofs.refuted.one_load_is_refuted.Goals as goal

pub returns : goal.returns
returns c = one_load_refused
