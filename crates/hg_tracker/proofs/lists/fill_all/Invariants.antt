use Rattle.std.proofs.Common.{◌≡◌, ◌≤◌, take, length, vec_capacity, All}
use Rattle.hg_tracker.specs.Entries.{common_numbers}
use Rattle.hg_tracker.specs.Gathers.{AreEmpty, AreListsOf}
use Rattle.hg_tracker.proofs.lists.fill_all.Given as goal

abbrev pub invariant-loop-table : goal.invariant-loop-table
invariant-loop-table l = AreListsOf 0 (common_numbers l.ranked) l.ranked (take l.table l.lists) × (length l.lists ≡ length l.initial.lists) ×
    All (λ list. l._sessions ≤ vec_capacity list) l.lists × (length l.moved ≡ 0 → AreEmpty (take l.table l.lists))
