-- How many versions some lines made and took back.
use Rattle.std.specs.Prelude.{◌≡◌, ℕ, ◌+◌, ◌≤◌, List, length, filter, sum_by, Bool, true, false, not}
use Rattle.std.specs.List.{list_any}
use Rattle.hg_base.specs.declared.statement.Statement.{Statement}
use Rattle.hg_base.specs.declared.statement.Statement.TheVariants.{Rollback}
use Rattle.hg_base.specs.declared.report.Kind.TheVariants as kinds
use Rattle.hg_base.specs.declared.line.Totals.{Totals}
use Rattle.hg_base.specs.Counts.{first_writes, is_committed, live, removed_by}
use Rattle.hg_base.specs.History.{History}
use Rattle.hg_base.specs.Transcript.{Said, is_of}

-- ---- in the midst

-- whether a statement is a rollback
abbrev pub is_rollback : Statement → Bool
is_rollback Rollback = true
is_rollback _ = false

-- whether the transaction of `now` was rolled back
abbrev pub is_rolled_back : List Said → Said → Bool
is_rolled_back all now = list_any (λ said. is_rollback said.statement) (filter (is_of now.session now.transaction) all)

-- versions made: one for each record that a transaction wrote
abbrev pub made_so_far : List Said → ℕ
made_so_far all = length (first_writes all)

-- versions undone: those of transactions that were rolled back
abbrev pub undone_so_far : List Said → ℕ
undone_so_far all = length (filter (is_rolled_back all) (first_writes all))

-- totals, without what the collectors removed and what is left
abbrev pub plain_totals : Totals → Totals
plain_totals t = record { made = t.made; undone = t.undone; group = 0; table = 0; interval = 0; left = 0 }

-- the totals after these lines, without what the collectors removed and what is left
abbrev pub totals_so_far : List Said → Totals
totals_so_far all = record { made = made_so_far all; undone = undone_so_far all; group = 0; table = 0; interval = 0; left = 0 }

-- ---- at the end

-- The totals at the end. They are those of a replay, but for rounds of which nothing is printed: the collectors may have removed more than
-- the reports say.
pub record AreFinal (all : List Said) (h : History) (totals : Totals) : Type 0 where
  pub made : totals.made ≡ made_so_far all
  pub undone : totals.undone ≡ length (filter (λ said. not (is_committed all said)) (first_writes all))
  pub group : sum_by (removed_by kinds.Group) all ≤ totals.group
  pub table : sum_by (removed_by kinds.Table) all ≤ totals.table
  pub interval : sum_by (removed_by kinds.Interval) all ≤ totals.interval
  pub left : totals.left ≡ length (live h)
  pub balance : totals.made ≡ totals.undone + totals.group + totals.table + totals.interval + totals.left
