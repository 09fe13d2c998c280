use Rattle.hg_exact.proofs.Exact.{sound_exact}
use Rattle.hg_exact.proofs.laws.sound_with_first_causes_is_replayed.Goals as goal

pub returns : goal.returns
returns c = sound_exact
