use Rattle.hg_core.proofs.Begins.{go_live_kept}
use Rattle.hg_core.proofs.laws.go_live_keeps.Goals as goal

pub returns : goal.returns
returns c = go_live_kept
