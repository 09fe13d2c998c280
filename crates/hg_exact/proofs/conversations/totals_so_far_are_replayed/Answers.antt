use Rattle.hg_exact.proofs.Totals.{totals_replayed}
use Rattle.hg_exact.proofs.conversations.totals_so_far_are_replayed.Goals as goal

pub returns : goal.returns
returns c = totals_replayed
