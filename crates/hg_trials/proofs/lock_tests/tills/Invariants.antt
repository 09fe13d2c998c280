use Rattle.std.proofs.Common.{◌≡◌, length}
use Rattle.hg_lock.specs.Locks.{EachFits}
use Rattle.hg_trials.proofs.lock_tests.tills.Given as goal

abbrev pub invariant-loop-lock : goal.invariant-loop-lock
invariant-loop-lock l = (length l.tills.items ≡ l.lock) × EachFits (λ k till. (till.list ≡ l.fn.list) × (till.lock ≡ k)) l.tills.items
