-- A text whose interval round removes nothing, though no snapshot is open.
use Rattle.std.specs.Prelude.{[], ◌∷◌, pos}
use Rattle.hg_base.specs.declared.line.Answer.TheVariants.{Stored}
use Rattle.hg_base.specs.declared.report.Kind.TheVariants.{Interval}
use Rattle.hg_base.specs.declared.statement.Statement.TheVariants.{Gc}
use Rattle.hg_decide.specs.Writing.{Example, example, totals, t, only_t, put, inside, outside_commit, swept}

-- two versions of one record were committed, and the report says that none was removed
abbrev pub idle : Example
idle = example only_t
    (outside_commit 1 2 (put t 5 (pos 10)) 0 Stored 1
    ∷ outside_commit 1 3 (put t 5 (pos 20)) 1 Stored 2
    ∷ inside 1 4 (Gc Interval) (swept Interval 2 2 0 [])
    ∷ [])
    (totals 2 0 0 1 0 1)
