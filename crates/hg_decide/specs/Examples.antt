-- Scripts of a few records, each with the text that a replay prints for it.
use Rattle.std.specs.Prelude.{ℕ, List, [], ◌∷◌, ◌++◌, pos, negsuc}
use Rattle.hg_base.specs.declared.value.Value.TheVariants.{Number}
use Rattle.hg_base.specs.declared.scope.Scope.TheVariants.{All, Declared}
use Rattle.hg_base.specs.declared.statement.Statement.TheVariants.{Begin, Scan, CursorOpen, Fetch, CursorClose, Commit, Rollback, Gc}
use Rattle.hg_base.specs.declared.report.Kind.{Kind}
use Rattle.hg_base.specs.declared.report.Kind.TheVariants as kinds
use Rattle.hg_base.specs.declared.line.Answer.{Answer}
use Rattle.hg_base.specs.declared.line.Answer.TheVariants.{Begun, Stored, Nothing, Gone, Rows, Committed, Ended, Undone, Newer, OpenBy, Undeclared}
use Rattle.hg_base.specs.declared.line.Totals.{Totals}
use Rattle.hg_decide.specs.Writing.{Example, Exchange, example, totals, t, u, only_t, t_and_u, get, put, del, row, rows, swept, moved_of, unmoved_of, inside, outside, outside_commit}

-- a script without a record, for which only the totals are printed
abbrev pub empty : Example
empty = example [] [] (totals 0 0 0 0 0 0)

-- ---- what a transaction sees

-- a write, read before it is committed
abbrev pub own_write : Example
own_write = example only_t
    (inside 1 2 (Begin All) (Begun 0)
    ∷ inside 1 3 (put t 5 (pos 7)) Stored
    ∷ inside 1 4 (get t 5) (row (pos 7))
    ∷ inside 1 5 Commit (Committed 1)
    ∷ [])
    (totals 1 0 0 0 0 1)

-- outside a transaction
abbrev pub absent_key : Example
absent_key = example only_t
    (outside 1 2 (get t 9) 0 Nothing
    ∷ [])
    (totals 0 0 0 0 0 0)

-- the second write replaces the first, and counts once
abbrev pub two_puts : Example
two_puts = example only_t
    (inside 1 2 (Begin All) (Begun 0)
    ∷ inside 1 3 (put t 5 (pos 1)) Stored
    ∷ inside 1 4 (put t 5 (pos 2)) Stored
    ∷ inside 1 5 (get t 5) (row (pos 2))
    ∷ inside 1 6 Commit (Committed 1)
    ∷ [])
    (totals 1 0 0 0 0 1)

-- a deletion of what is not seen writes nothing, and commits nothing
abbrev pub absent_deletion : Example
absent_deletion = example only_t
    (inside 1 2 (Begin All) (Begun 0)
    ∷ inside 1 3 (del t 5) Nothing
    ∷ inside 1 4 Commit Ended
    ∷ outside 1 5 (del t 5) 0 Nothing
    ∷ [])
    (totals 0 0 0 0 0 0)

-- a range that is empty, and the whole one
abbrev pub scan_ends : Example
scan_ends = example only_t
    (outside_commit 1 2 (put t 18446744073709551615 (negsuc 2)) 0 Stored 1
    ∷ outside 1 3 (Scan t 9 3) 1 (Rows [])
    ∷ outside 1 4 (Scan t 0 18446744073709551615) 1 (Rows ((18446744073709551615, (Number (negsuc 2) ∷ [])) ∷ []))
    ∷ [])
    (totals 1 0 0 0 0 1)

-- ---- what is refused

-- a table that the transaction did not declare; it goes on afterwards
abbrev pub undeclared : Example
undeclared = example t_and_u
    (inside 1 3 (Begin (Declared 2)) (Begun 0)
    ∷ inside 1 4 (get t 1) (Undeclared t)
    ∷ inside 1 5 (get u 1) Nothing
    ∷ inside 1 6 Commit Ended
    ∷ [])
    (totals 0 0 0 0 0 0)

-- another's open write, and a retry once it is rolled back
abbrev pub open_write : Example
open_write = example only_t
    (inside 1 2 (Begin All) (Begun 0)
    ∷ inside 2 3 (Begin All) (Begun 0)
    ∷ inside 1 4 (put t 5 (pos 1)) Stored
    ∷ inside 2 5 (put t 5 (pos 2)) (OpenBy (record { session = 1; transaction = 1 }))
    ∷ inside 1 6 Rollback Undone
    ∷ inside 2 7 (put t 5 (pos 2)) Stored
    ∷ inside 2 8 Commit (Committed 1)
    ∷ [])
    (totals 2 1 0 0 0 1)

-- ---- what the collectors take

-- a pass over four versions with a reader at the first
abbrev pub chain : Kind → ℕ → Totals → Example
chain kind removed sums = example only_t
    (outside_commit 2 2 (put t 5 (pos 10)) 0 Stored 1
    ∷ inside 1 3 (Begin All) (Begun 1)
    ∷ outside_commit 2 4 (put t 5 (pos 20)) 1 Stored 2
    ∷ outside_commit 2 5 (put t 5 (pos 30)) 2 Stored 3
    ∷ outside_commit 2 6 (put t 5 (pos 40)) 3 Stored 4
    ∷ inside 3 7 (Gc kind) (swept kind 4 4 removed (unmoved_of 1 1 ∷ []))
    ∷ inside 1 8 (get t 5) (row (pos 10))
    ∷ inside 1 9 Commit Ended
    ∷ [])
    sums

-- versions 2 and 3 go, which nobody can read any more; version 1, which the reader sees, stays
abbrev pub middle_of_a_chain : Example
middle_of_a_chain = chain kinds.Interval 2 (totals 4 0 0 1 2 1)

-- the group collector takes nothing that is numbered over the oldest reader
abbrev pub group_pass : Example
group_pass = chain kinds.Group 0 (totals 4 0 0 3 0 1)

-- version 1 goes, since a version lives up to its successor's number and not at it
abbrev pub equal_to_a_successor : Example
equal_to_a_successor = example only_t
    (outside_commit 1 2 (put t 5 (pos 10)) 0 Stored 1
    ∷ outside_commit 1 3 (put t 5 (pos 20)) 1 Stored 2
    ∷ inside 2 4 (Begin All) (Begun 2)
    ∷ outside_commit 1 5 (put t 5 (pos 30)) 2 Stored 3
    ∷ inside 3 6 (Gc kinds.Interval) (swept kinds.Interval 3 3 1 (unmoved_of 2 2 ∷ []))
    ∷ inside 2 7 (get t 5) (row (pos 20))
    ∷ [])
    (totals 3 0 0 1 1 1)

-- a snapshot that five commits have passed is long: it declared `u`, and holds back nothing of `t` any more
abbrev pub moved : Example
moved = example t_and_u
    (outside_commit 2 3 (put t 1 (pos 10)) 0 Stored 1
    ∷ outside_commit 2 4 (put u 1 (pos 11)) 1 Stored 2
    ∷ inside 1 5 (Begin (Declared 2)) (Begun 2)
    ∷ outside_commit 2 6 (put u 1 (pos 12)) 2 Stored 3
    ∷ outside_commit 2 7 (put t 1 (pos 20)) 3 Stored 4
    ∷ outside_commit 2 8 (put t 1 (pos 30)) 4 Stored 5
    ∷ outside_commit 2 9 (put t 1 (pos 40)) 5 Stored 6
    ∷ outside_commit 2 10 (put t 1 (pos 50)) 6 Stored 7
    ∷ inside 3 11 (Gc kinds.Table) (swept kinds.Table 7 7 4 (moved_of 1 2 ∷ []))
    ∷ inside 1 12 (get u 1) (row (pos 11))
    ∷ [])
    (totals 7 0 0 5 0 2)

-- one that three have passed is not long
abbrev pub not_long : Example
not_long = example t_and_u
    (outside_commit 2 3 (put t 1 (pos 10)) 0 Stored 1
    ∷ inside 1 4 (Begin (Declared 2)) (Begun 1)
    ∷ outside_commit 2 5 (put t 1 (pos 20)) 1 Stored 2
    ∷ outside_commit 2 6 (put t 1 (pos 30)) 2 Stored 3
    ∷ outside_commit 2 7 (put t 1 (pos 40)) 3 Stored 4
    ∷ inside 3 8 (Gc kinds.Table) (swept kinds.Table 4 4 0 (unmoved_of 1 1 ∷ []))
    ∷ [])
    (totals 4 0 0 3 0 1)

-- a script whose deletion is kept while an older transaction may write the record
abbrev pub deletion : List Exchange
deletion =
    outside_commit 2 2 (put t 5 (pos 10)) 0 Stored 1
    ∷ inside 1 3 (Begin All) (Begun 1)
    ∷ inside 2 4 (Begin All) (Begun 1)
    ∷ inside 2 5 (del t 5) Gone
    ∷ inside 2 6 Commit (Committed 2)
    ∷ inside 3 7 (Gc kinds.Group) (swept kinds.Group 2 2 0 (unmoved_of 1 1 ∷ []))
    ∷ inside 3 8 (Gc kinds.Table) (swept kinds.Table 2 2 0 (unmoved_of 1 1 ∷ []))
    ∷ inside 3 9 (Gc kinds.Interval) (swept kinds.Interval 2 2 0 (unmoved_of 1 1 ∷ []))
    ∷ inside 1 10 (put t 5 (pos 11)) (Newer 2)
    ∷ []

-- that script with its totals: the table collector removed both versions at the end of the replay
abbrev pub kept_deletion : Example
kept_deletion = example only_t deletion (totals 2 0 0 2 0 0)

-- and goes, with what it deleted, once that transaction is over
abbrev pub kept_deletion_longer : Example
kept_deletion_longer = example only_t
    (deletion
    ++ inside 1 11 Rollback Undone
    ∷ inside 3 12 (Gc kinds.Table) (swept kinds.Table 2 2 2 [])
    ∷ [])
    (totals 2 0 0 2 0 0)

-- ---- a scan in parts

-- Three fetches of one cursor. Between the first two, a record of its range is written twice, another one is deleted, and the
-- version between goes.
abbrev pub cursor_by : Answer → Answer → Answer → Example
cursor_by first second third = example only_t
    (outside_commit 2 2 (put t 1 (pos 10)) 0 Stored 1
    ∷ outside_commit 2 3 (put t 2 (pos 20)) 1 Stored 2
    ∷ outside_commit 2 4 (put t 3 (pos 30)) 2 Stored 3
    ∷ inside 1 5 (CursorOpen t 0 9) (Begun 3)
    ∷ inside 1 6 (Fetch 2) first
    ∷ outside_commit 2 7 (put t 3 (pos 31)) 3 Stored 4
    ∷ outside_commit 2 8 (put t 3 (pos 32)) 4 Stored 5
    ∷ outside_commit 2 9 (del t 1) 5 Gone 6
    ∷ inside 3 10 (Gc kinds.Interval) (swept kinds.Interval 6 6 1 (unmoved_of 1 3 ∷ []))
    ∷ inside 1 11 (Fetch 2) second
    ∷ inside 1 12 (Fetch 2) third
    ∷ inside 1 13 CursorClose Ended
    ∷ [])
    (totals 6 0 0 3 1 2)

-- each fetch gives the next rows as they stood at the cursor's snapshot, and the last one none
abbrev pub cursor : Example
cursor = cursor_by (rows ((1, pos 10) ∷ (2, pos 20) ∷ [])) (rows ((3, pos 30) ∷ [])) (rows [])
