use Rattle.std.proofs.Common.{◌≡◌, ◌++◌, ◌∷◌, ◌-◌, replicate, Some, None}
use Rattle.hg_lock.proofs.locks.lay.Given as goal

abbrev pub invariant-loop-turn : goal.invariant-loop-turn
invariant-loop-turn g l = l.slots.items ≡ l.fn.slots.items ++ Some l.fn.value ∷ replicate (l.turn - 1) None
