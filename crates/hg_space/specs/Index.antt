-- The places of records, as a finite map: its entries in the order of the records.
use Rattle.std.specs.Prelude.{◌≡◌, ℕ, ◌≤◌, List, Option, Some, IsTrue, IsSome}
use Rattle.std.specs.Map.{lookup, keys_of}
use Rattle.std.specs.List.Sorted.{IsStrictlySortedBy}
use Rattle.std.specs.Option.{MatchOption}
use Rattle.hg_base.specs.declared.rid.Rid.{Rid}
use Rattle.hg_base.specs.declared.rid.TableId.{TableId}
use Rattle.hg_base.specs.History.{same_rid}
use Rattle.hg_base.specs.RidOrder.{rid_cmp}
use Rattle.hg_space.specs.Places.{Seat, IsTaken}

-- the entries stand in that order, no record twice
abbrev pub Ascends : List (Rid × ℕ) → Type 0
Ascends index = IsStrictlySortedBy rid_cmp (keys_of index)

-- the place of a record
abbrev pub place_of : List (Rid × ℕ) → Rid → Option ℕ
place_of index r = lookup (same_rid r) index

-- the record has that place
abbrev pub HasPlace : List (Rid × ℕ) → Rid → ℕ → Type 0
HasPlace index r p = place_of index r ≡ Some p

-- records that have the same place are the same
abbrev pub AreDistinct : List (Rid × ℕ) → Type 0
AreDistinct index = (q r : Rid) (p : ℕ) → HasPlace index q p → HasPlace index r p → IsTrue (same_rid q r)

-- a finite map with distinct places
pub record IsIndex (index : List (Rid × ℕ)) : Type 0 where
  pub ascends : Ascends index
  pub distinct : AreDistinct index

-- each place that a record has is taken
abbrev pub AreTaken : List (Rid × ℕ) → List Seat → Type 0
AreTaken index places = (r : Rid) (p : ℕ) → HasPlace index r p → IsTaken places p

-- the record of that key in a table
abbrev pub record_at : TableId → ℕ → Rid
record_at table key = record { table = table; key = key }

-- the record of that key has a place
abbrev pub IsThere : List (Rid × ℕ) → TableId → ℕ → Type 0
IsThere index table key = IsSome (place_of index (record_at table key))

-- the least key of the table at or over a number, and none where the table has no such key
abbrev pub IsNextKey : List (Rid × ℕ) → TableId → ℕ → Option ℕ → Type 0
IsNextKey index table from found =
    MatchOption found
    ((k : ℕ) → from ≤ k → IsThere index table k → ⊥)
    (λ least. (from ≤ least) × IsThere index table least × ((k : ℕ) → from ≤ k → IsThere index table k → least ≤ k))
