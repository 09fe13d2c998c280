use Rattle.hg_core.proofs.Moves.{each_moved}
use Rattle.hg_core.proofs.theorems.each_move_is_noted.Goals as goal

pub returns : goal.returns
returns c = each_moved
