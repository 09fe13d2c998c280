use Rattle.std.proofs.Common.{◌≡◌, ◌≤◌, take, vec_capacity}
use Rattle.hg_tracker.specs.Entries.{numbers_for}
use Rattle.hg_tracker.proofs.lists.fill.Given as goal

abbrev pub invariant-loop-entry : goal.invariant-loop-entry
invariant-loop-entry l = (l.list.items ≡ numbers_for l.table (take l.entry-index l.ranked)) × (vec_capacity l.initial.list ≤ vec_capacity l.list)
