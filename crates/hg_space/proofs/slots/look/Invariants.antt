use Rattle.std.proofs.Common.{◌≡◌, false, drop}
use Rattle.hg_space.specs.Slots.{look_from}
use Rattle.hg_space.proofs.slots.look.Given as goal

abbrev pub invariant-loop-slot : goal.invariant-loop-slot
invariant-loop-slot l = look_from l.gap l.rid (drop l.slot-index l.bin) ≡ look_from false l.rid l.bin
