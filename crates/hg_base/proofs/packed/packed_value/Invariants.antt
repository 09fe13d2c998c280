use Rattle.std.proofs.Common.{◌≡◌}
use Rattle.hg_base.specs.Packed.{unpacked}
use Rattle.hg_base.proofs.Packing.{packed_from}
use Rattle.hg_base.proofs.packed.packed_value.Given as goal

abbrev pub invariant-loop-skipped : goal.invariant-loop-skipped
invariant-loop-skipped l = l.rest ≡ packed_from (unpacked l.fn.bytes) l._skipped
