-- How long a version lives, and when a sweep takes it.
-- The interval rule is that of Lee et al., "Hybrid Garbage Collection for Multi-Version Concurrency Control in SAP HANA",
-- SIGMOD 2016, in outline.
use Rattle.std.specs.Prelude.{ℕ, ◌≤◌, List, Bool, false, not, ◌&&◌, nat_le, nat_lt, IsTrue, Option, Some, None, ⊤, ◌⊎◌, Contains}
use Rattle.std.specs.List.{list_any}

-- A version lives from its own number n up to, and not including, its successor's, which is up: whether a snapshot lies in
-- that lifetime.
abbrev pub is_within : ℕ → ℕ → ℕ → Bool
is_within n up s = nat_le n s && nat_lt s up

-- whether one of the snapshots does
abbrev pub is_in_use : List ℕ → ℕ → ℕ → Bool
is_in_use snapshots n up = list_any (is_within n up) snapshots

-- Whether a version goes: its successor is numbered at or below the horizon, and no snapshot lies in its lifetime. So the
-- newest stays, and an open write.
abbrev pub goes : ℕ → List ℕ → Option ℕ → Option ℕ → Bool
goes horizon snapshots (Some up) (Some n) = nat_le up horizon && not (is_in_use snapshots n up)
goes horizon snapshots None n = false
goes horizon snapshots (Some up) None = false

-- whether it may stay: where its successor is numbered at or below the horizon, a snapshot lies in its lifetime
abbrev pub MayStay : ℕ → List ℕ → Option ℕ → Option ℕ → Type 0
MayStay horizon snapshots (Some up) (Some n) = up ≤ horizon → IsTrue (is_in_use snapshots n up)
MayStay horizon snapshots None n = ⊤
MayStay horizon snapshots (Some up) None = ⊤

-- a reader that a sweep has to leave as it is: its snapshot is at or over the horizon, or is one of those handed in
abbrev pub IsGuarded : ℕ → List ℕ → ℕ → Type 0
IsGuarded horizon snapshots s = (horizon ≤ s) ⊎ Contains snapshots s
