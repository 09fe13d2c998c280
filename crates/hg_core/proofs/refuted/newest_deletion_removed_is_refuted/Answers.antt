use Rattle.hg_core.proofs.Mistakes.{deletion_refused}
use Rattle.hg_core.proofs.refuted.newest_deletion_removed_is_refuted.Goals as goal

pub returns : goal.returns
returns c = deletion_refused
