use Rattle.std.proofs.Common.{◌≡◌, ◌≤◌, take, vec_capacity}
use Rattle.hg_tracker.specs.Entries.{common_numbers}
use Rattle.hg_tracker.proofs.lists.fill_common.Given as goal

abbrev pub invariant-loop-entry : goal.invariant-loop-entry
invariant-loop-entry l = (l.common.items ≡ common_numbers (take l.entry-index l.ranked)) × (vec_capacity l.initial.common ≤ vec_capacity l.common)
