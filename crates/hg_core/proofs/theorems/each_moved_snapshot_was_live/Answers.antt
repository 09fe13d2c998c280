use Rattle.hg_core.proofs.Causes.{each_move}
use Rattle.hg_core.proofs.theorems.each_moved_snapshot_was_live.Goals as goal

pub returns : goal.returns
returns c = each_move
