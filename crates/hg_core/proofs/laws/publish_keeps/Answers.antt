use Rattle.hg_core.proofs.Publishing.{publish_kept}
use Rattle.hg_core.proofs.laws.publish_keeps.Goals as goal

pub returns : goal.returns
returns c = publish_kept
