-- What a collector's pass leaves of a record's versions.
use Rattle.std.specs.Prelude.{ℕ, List, [], ◌∷◌, map, filter, not, Option, Some, None, IsSome, ⊤}
use Rattle.hg_core.specs.declared.version.Version.{Version}
use Rattle.hg_core.specs.Versions.{stamp_number, is_up_to}
use Rattle.hg_base.specs.Lifetimes.{goes, MayStay}
use Rattle.hg_core.specs.Removal.{oldest}

-- each version may stay; the first has a successor with that number
abbrev pub MayAllStay : ℕ → List ℕ → Option ℕ → List Version → Type 0
MayAllStay horizon snapshots successor [] = ⊤
MayAllStay horizon snapshots successor (v ∷ vs) = MayStay horizon snapshots successor (stamp_number v.stamp) × MayAllStay horizon snapshots (stamp_number v.stamp) vs

-- each of a record's versions may stay; the newest has no successor
abbrev pub IsClean : ℕ → List ℕ → List Version → Type 0
IsClean horizon snapshots vs = MayAllStay horizon snapshots None vs

-- at most one version, which is then a row
abbrev pub IsOneRow : List Version → Type 0
IsOneRow [] = ⊤
IsOneRow (v ∷ []) = IsSome v.image.row
IsOneRow (v ∷ w ∷ vs) = ⊥

-- the versions that have a number at or below n
abbrev pub up_to : ℕ → List Version → List Version
up_to n vs = filter (λ v. is_up_to n (stamp_number v.stamp)) vs

-- of the versions numbered at or below the bound there is at most one, and that is no deletion
abbrev pub IsCutAt : ℕ → List Version → Type 0
IsCutAt bound vs = IsOneRow (up_to bound vs)

-- ---- which versions go

-- each version with its successor's number, where that of the first is given
abbrev pub with_successors : Option ℕ → List Version → List (Option ℕ × Version)
with_successors successor [] = []
with_successors successor (v ∷ vs) = (successor, v) ∷ with_successors (stamp_number v.stamp) vs

-- the versions that don't go
abbrev pub not_gone : ℕ → List ℕ → List Version → List Version
not_gone horizon snapshots vs = map (λ e. e.1) (filter (λ e. not (goes horizon snapshots e.0 (stamp_number e.1.stamp))) (with_successors None vs))

-- the versions that have no number at or below n
abbrev pub past : ℕ → List Version → List Version
past n vs = filter (λ v. not (is_up_to n (stamp_number v.stamp))) vs

-- the oldest image that a version becomes, if it is there
abbrev pub as_oldest : Option Version → List Version
as_oldest None = []
as_oldest (Some v) = oldest (stamp_number v.stamp) v.image.row
