use Rattle.hg_core.proofs.Mistakes.{own_number_refused}
use Rattle.hg_core.proofs.refuted.lifetime_without_own_number_is_refuted.Goals as goal

pub returns : goal.returns
returns c = own_number_refused
