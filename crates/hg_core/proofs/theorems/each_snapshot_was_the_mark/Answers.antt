use Rattle.hg_core.proofs.Causes.{each_snapshot}
use Rattle.hg_core.proofs.theorems.each_snapshot_was_the_mark.Goals as goal

pub returns : goal.returns
returns c = each_snapshot
