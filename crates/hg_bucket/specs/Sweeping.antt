-- What a sweep of a table removes, and how many steps it may take.
use Rattle.std.specs.Prelude.{ℕ, ◌+◌, List, [], ◌∷◌, map, filter, length, sum_by, Bool, true, false, not, ◌&&◌, ◌==◌, Option, None, is_some, if◌then◌else◌}
use Rattle.hg_base.specs.declared.rid.Rid.{Rid}
use Rattle.hg_base.specs.declared.rid.TableId.{TableId}
use Rattle.hg_base.specs.Lists.{Each}
use Rattle.hg_base.specs.Lifetimes.{goes, MayStay}
use Rattle.hg_bucket.specs.BucketModel.{Kept}

-- each version with its successor's number, where up is that of the first
abbrev pub with_successors : Option ℕ → List Kept → List (Option ℕ × Kept)
with_successors up [] = []
with_successors up (v ∷ vs) = (up, v) ∷ with_successors v.number vs

-- whether a sweep removes a version, which is given with its successor's number
abbrev pub goes_after : ℕ → List ℕ → Option ℕ × Kept → Bool
goes_after horizon snapshots p = goes horizon snapshots p.0 p.1.number

-- the versions that stay, the oldest image among them
abbrev pub swept : ℕ → List ℕ → List Kept → List Kept
swept horizon snapshots vs = map (λ p. p.1) (filter (λ p. not (goes_after horizon snapshots p)) (with_successors None vs))

-- each version may stay
abbrev pub IsClean : ℕ → List ℕ → List Kept → Type 0
IsClean horizon snapshots vs = Each (λ p. MayStay horizon snapshots p.0 p.1.number) (with_successors None vs)

-- ---- what a sweep costs

-- whether there is more than an oldest image: a sweep passes over no other record
abbrev pub is_long : List Kept → Bool
is_long [] = false
is_long (v ∷ []) = is_some v.by
is_long (v ∷ w ∷ vs) = true

-- at most so many steps for one record: its versions and the snapshots
abbrev pub record_steps : List ℕ → List Kept → ℕ
record_steps snapshots vs = if is_long vs then length vs + length snapshots else 0

-- whether a sweep of the table looks at the record: it is of that table, and has more than an oldest image
abbrev pub is_looked_at : TableId → Rid × List Kept → Bool
is_looked_at table e = (e.0.table.0 == table.0) && is_long e.1

-- at most so many steps: the versions of each record that it looks at, and for each such record the snapshots
abbrev pub sweep_steps : TableId → List ℕ → List (Rid × List Kept) → ℕ
sweep_steps table snapshots records = sum_by (λ e. length e.1 + length snapshots) (filter (is_looked_at table) records)
