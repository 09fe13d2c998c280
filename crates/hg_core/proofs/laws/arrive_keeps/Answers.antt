use Rattle.hg_core.proofs.Seats.{arrive_kept}
use Rattle.hg_core.proofs.laws.arrive_keeps.Goals as goal

pub returns : goal.returns
returns c = arrive_kept
