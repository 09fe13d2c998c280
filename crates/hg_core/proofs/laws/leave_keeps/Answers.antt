use Rattle.hg_core.proofs.Seats.{leave_kept}
use Rattle.hg_core.proofs.laws.leave_keeps.Goals as goal

pub returns : goal.returns
returns c = leave_kept
