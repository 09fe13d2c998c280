use Rattle.std.proofs.Common.{◌≡◌, take, drop, ◌++◌, map}
use Rattle.std.specs.List.{list_any}
use Rattle.hg_space.specs.Slots.{without, is_empty}
use Rattle.hg_space.proofs.slots.take_out.Given as goal

abbrev pub invariant-loop-i : goal.invariant-loop-i
invariant-loop-i l = record {
  gap : l.gap ≡ list_any is_empty l.fn.bin;
  far : l.bin ≡ map (without l.gap l.rid) (take l.i l.fn.bin) ++ drop l.i l.fn.bin;
}
