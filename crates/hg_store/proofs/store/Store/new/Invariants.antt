use Rattle.std.proofs.Common.{◌≡◌, length, ◌++◌}
use Rattle.hg_lock.specs.Locks.{EachFits}
use Rattle.hg_store.specs.Slots.{SlotFits}
use Rattle.hg_store.proofs.store.Store.new.Given as goal

abbrev pub invariant-loop-seat : goal.invariant-loop-seat
invariant-loop-seat l = record { count : length l.slots.items ≡ length l.yielded; seats : l.fn.seats ≡ l.yielded ++ l.seat-iterator.rest.items; fit : EachFits (SlotFits l.tag) l.slots.items }
