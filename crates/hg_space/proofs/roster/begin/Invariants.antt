use Rattle.std.proofs.Common.{◌≡◌, ℕ, ◌+◌, ◌-◌, vec_len}
use Rattle.hg_space.specs.Rosters.{list_of, lists_in}
use Rattle.hg_space.proofs.roster.begin.Given as goal

abbrev pub invariant-loop-table : goal.invariant-loop-table
invariant-loop-table l = (t : ℕ) → list_of (lists_in l.lists.items) t ≡ list_of (lists_in l.fn.lists.items) t

abbrev pub decreases-loop-table : goal.decreases-loop-table
decreases-loop-table l = l.table.0 + 1 - vec_len l.lists
