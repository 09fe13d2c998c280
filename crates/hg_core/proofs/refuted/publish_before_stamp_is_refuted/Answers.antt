use Rattle.hg_core.proofs.Mistakes.{early_publish_refused}
use Rattle.hg_core.proofs.refuted.publish_before_stamp_is_refuted.Goals as goal

pub returns : goal.returns
returns c = early_publish_refused
