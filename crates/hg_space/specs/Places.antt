-- The places of a table space, by their numbers from 0.
use Rattle.std.specs.Prelude.{ℕ, List, Bool, Option, Some, None, IsSome, is_some, not, slice_index_or, option_and_then}
use Rattle.std.specs.List.{list_any}
use Rattle.hg_base.specs.declared.image.Image.{Image}

-- a number with an image, where there is one
abbrev pub Oldest : Type 0
Oldest = Option (ℕ × Image)

-- a place is free, or taken with what it has
abbrev pub Seat : Type 0
Seat = Option Oldest

-- a place that is free
abbrev pub free : Seat
free = None

-- a place that is taken, with what it has
abbrev pub taken : Oldest → Seat
taken oldest = Some oldest

-- the places, and how many more can be taken without memory
pub record Space : Type 0 where
  pub places : List Seat
  pub spare : ℕ

-- the place is there and taken
abbrev pub IsTaken : List Seat → ℕ → Type 0
IsTaken places p = IsSome (slice_index_or places p free)

-- whether a place is free
abbrev pub has_free : List Seat → Bool
has_free places = list_any (λ seat. not (is_some seat)) places

-- what a place has
abbrev pub image_at : List Seat → ℕ → Oldest
image_at places p = option_and_then (λ oldest. oldest) (slice_index_or places p free)
