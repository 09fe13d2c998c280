use Rattle.hg_exact.proofs.Totals.{totals_same}
use Rattle.hg_exact.proofs.laws.three_totals_are_replayed.Goals as goal

pub returns : goal.returns
returns c = totals_same
