use Rattle.hg_core.proofs.Runs.{steady_after}
use Rattle.hg_core.proofs.laws.always_steady.Goals as goal

pub returns : goal.returns
returns c = steady_after
