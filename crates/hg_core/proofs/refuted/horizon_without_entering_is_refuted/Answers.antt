use Rattle.hg_core.proofs.Refused.{left_out_refused, mark_alone_refused}
use Rattle.hg_core.proofs.refuted.horizon_without_entering_is_refuted.Goals as goal

pub returns-clause-sample : goal.returns-clause-sample
returns-clause-sample c = left_out_refused

pub returns-clause-horizon : goal.returns-clause-horizon
returns-clause-horizon c = mark_alone_refused
