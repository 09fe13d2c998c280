use Rattle.hg_core.proofs.Writing.{undo_kept}
use Rattle.hg_core.proofs.laws.undo_keeps.Goals as goal

pub returns : goal.returns
returns c = undo_kept
