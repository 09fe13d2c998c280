use Rattle.std.proofs.Common.{◌≡◌, ◌≤◌, take, vec_capacity}
use Rattle.hg_tracker.specs.Entries.{moved_of}
use Rattle.hg_tracker.proofs.lists.fill_moved.Given as goal

abbrev pub invariant-loop-entry : goal.invariant-loop-entry
invariant-loop-entry l = (l.moved.items ≡ moved_of (take l.entry-index l.ranked)) × (vec_capacity l.initial.moved ≤ vec_capacity l.moved)
