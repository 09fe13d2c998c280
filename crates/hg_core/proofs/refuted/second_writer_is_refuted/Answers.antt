use Rattle.hg_core.proofs.Mistakes.{second_writer_refused}
use Rattle.hg_core.proofs.refuted.second_writer_is_refuted.Goals as goal

pub returns : goal.returns
returns c = second_writer_refused
