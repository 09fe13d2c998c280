use Rattle.hg_core.proofs.Unions.{unite_kept}
use Rattle.hg_core.proofs.laws.unite_keeps.Goals as goal

pub returns : goal.returns
returns c = unite_kept
