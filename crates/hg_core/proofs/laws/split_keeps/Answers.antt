use Rattle.hg_core.proofs.Seats.{split_kept}
use Rattle.hg_core.proofs.laws.split_keeps.Goals as goal

pub returns : goal.returns
returns c = split_kept
