use Rattle.hg_core.proofs.Refused.{undeclared_refused}
use Rattle.hg_core.proofs.refuted.undeclared_scope_is_refuted.Goals as goal

pub returns : goal.returns
returns c = undeclared_refused
