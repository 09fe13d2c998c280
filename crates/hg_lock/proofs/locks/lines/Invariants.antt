use Rattle.std.proofs.Common.{◌≡◌, ◌++◌}
use Rattle.hg_lock.specs.Guarded.{spread}
use Rattle.hg_lock.proofs.locks.lines.Given as goal

abbrev pub invariant-loop-value : goal.invariant-loop-value
invariant-loop-value g l = (l.slots.items ≡ spread l.yielded) × (l.fn.values.items ≡ l.yielded ++ l.value-iterator.rest.items)
