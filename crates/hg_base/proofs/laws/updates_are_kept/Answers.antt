use Rattle.hg_base.proofs.HistoryFacts.{update_kept}
use Rattle.hg_base.proofs.laws.updates_are_kept.Goals as goal

pub returns : goal.returns
returns c = update_kept
