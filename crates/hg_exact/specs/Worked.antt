-- Texts that are sound, and are not what a replay prints.
use Rattle.std.specs.Prelude.{[], ◌∷◌, pos}
use Rattle.hg_base.specs.declared.line.Answer.TheVariants.{Begun, Stored, Committed, Newer, Undone}
use Rattle.hg_base.specs.declared.scope.Scope.TheVariants.{All}
use Rattle.hg_base.specs.declared.statement.Statement.TheVariants.{Begin, Commit, Rollback}
use Rattle.hg_decide.specs.Writing.{Example, example, totals, t, only_t, put, inside, outside_commit}

-- two sessions commit, and their numbers are exchanged
abbrev pub exchanged : Example
exchanged = example only_t
    (inside 1 2 (Begin All) (Begun 0)
    ∷ inside 2 3 (Begin All) (Begun 0)
    ∷ inside 1 4 (put t 1 (pos 10)) Stored
    ∷ inside 2 5 (put t 2 (pos 20)) Stored
    ∷ inside 1 6 Commit (Committed 2)
    ∷ inside 2 7 Commit (Committed 1)
    ∷ [])
    (totals 2 0 0 0 0 2)

-- two commits are in one group
abbrev pub one_group : Example
one_group = example only_t
    (inside 1 2 (Begin All) (Begun 0)
    ∷ inside 2 3 (Begin All) (Begun 0)
    ∷ inside 1 4 (put t 1 (pos 10)) Stored
    ∷ inside 2 5 (put t 2 (pos 20)) Stored
    ∷ inside 1 6 Commit (Committed 1)
    ∷ inside 2 7 Commit (Committed 1)
    ∷ [])
    (totals 2 0 0 0 0 2)

-- of two newer commits, the older one is named
abbrev pub older_newer : Example
older_newer = example only_t
    (inside 1 2 (Begin All) (Begun 0)
    ∷ outside_commit 2 3 (put t 1 (pos 10)) 0 Stored 1
    ∷ outside_commit 2 4 (put t 1 (pos 20)) 1 Stored 2
    ∷ inside 1 5 (put t 1 (pos 30)) (Newer 1)
    ∷ [])
    (totals 2 0 0 1 0 1)

-- a write over another's open write, which is rolled back later
abbrev pub over_open : Example
over_open = example only_t
    (inside 1 2 (Begin All) (Begun 0)
    ∷ inside 2 3 (Begin All) (Begun 0)
    ∷ inside 1 4 (put t 1 (pos 10)) Stored
    ∷ inside 2 5 (put t 1 (pos 20)) Stored
    ∷ inside 2 6 Rollback Undone
    ∷ inside 1 7 Commit (Committed 1)
    ∷ [])
    (totals 2 1 0 0 0 1)
