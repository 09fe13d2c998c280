use Rattle.std.proofs.Common.{◌≡◌, ◌∷◌, length, take}
use Rattle.std.specs.List.{flat_map}
use Rattle.hg_base.specs.Lists.{Each}
use Rattle.hg_base.specs.Values.{FitsValue}
use Rattle.hg_base.specs.Packed.{packed_value}
use Rattle.hg_base.proofs.packed.pack.Given as goal

abbrev pub invariant-loop-value : goal.invariant-loop-value
invariant-loop-value l = (l.bytes.items ≡ length l.values ∷ flat_map packed_value (take l.value-index l.values)) × Each FitsValue (take l.value-index l.values)
