use Rattle.hg_exact.proofs.Conversing.{conversed_replayed}
use Rattle.hg_exact.proofs.conversations.what_is_conversed_is_replayed.Goals as goal

pub returns : goal.returns
returns c = conversed_replayed
