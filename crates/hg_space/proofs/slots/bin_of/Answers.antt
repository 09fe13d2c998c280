use Rattle.std.proofs.Common.{refl}
use Rattle.hg_space.specs.Slots.{bin_of}
use Rattle.hg_space.proofs.slots.bin_of.Goals as goal

pub returns : goal.returns
unfolding bin_of
returns c = refl
