use Rattle.hg_core.proofs.Mistakes.{no_mask_cut, no_mask_swept}
use Rattle.hg_core.proofs.refuted.bound_without_mask_is_refuted.Goals as goal

pub returns-clause-table : goal.returns-clause-table
returns-clause-table c = no_mask_cut

pub returns-clause-interval : goal.returns-clause-interval
returns-clause-interval c = no_mask_swept
