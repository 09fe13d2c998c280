use Rattle.hg_core.proofs.Begins.{fix_kept}
use Rattle.hg_core.proofs.laws.fix_keeps.Goals as goal

pub returns : goal.returns
returns c = fix_kept
