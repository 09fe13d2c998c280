use Rattle.hg_exact.proofs.Ascending.{sound_ascends}
use Rattle.hg_exact.proofs.laws.commit_numbers_ascend.Goals as goal

pub returns : goal.returns
returns c = sound_ascends
