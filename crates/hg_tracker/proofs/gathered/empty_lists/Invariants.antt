use Rattle.std.proofs.Common.{◌≡◌, ◌≤◌, length, vec_capacity, All}
use Rattle.hg_tracker.specs.Gathers.{AreEmpty}
use Rattle.hg_tracker.proofs.gathered.empty_lists.Given as goal

abbrev pub invariant-loop : goal.invariant-loop
invariant-loop l = (length l.lists.items ≡ l.counter) × All (λ list. l.fn.sessions ≤ vec_capacity list) l.lists.items × AreEmpty l.lists.items
