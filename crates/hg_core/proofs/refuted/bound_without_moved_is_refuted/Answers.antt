use Rattle.hg_base.specs.declared.report.Kind.TheVariants.{Group, Table}
use Rattle.hg_core.proofs.Mistakes.{moved_refused}
use Rattle.hg_core.proofs.refuted.bound_without_moved_is_refuted.Goals as goal

pub returns-clause-table : goal.returns-clause-table
returns-clause-table c = moved_refused Table

pub returns-clause-group : goal.returns-clause-group
returns-clause-group c = moved_refused Group
