use Rattle.hg_core.proofs.Mistakes.{successor_refused}
use Rattle.hg_core.proofs.refuted.lifetime_with_successor_is_refuted.Goals as goal

pub returns : goal.returns
returns c = successor_refused
