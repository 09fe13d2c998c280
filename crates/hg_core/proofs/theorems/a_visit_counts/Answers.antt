use Rattle.std.proofs.Common.{refl}
use Rattle.hg_core.specs.Contents.{bucket_of}
use Rattle.hg_core.proofs.WorkedSweeps.{swept_visit_runs}
use Rattle.hg_core.proofs.theorems.a_visit_counts.Goals as goal

pub returns-clause-run : goal.returns-clause-run
returns-clause-run c = swept_visit_runs

pub returns-clause-bucket : goal.returns-clause-bucket
unfolding bucket_of
returns-clause-bucket c = refl

pub returns-clause-held : goal.returns-clause-held
unfolding bucket_of
returns-clause-held c = refl

pub returns-clause-visit : goal.returns-clause-visit
unfolding bucket_of
returns-clause-visit c = refl
