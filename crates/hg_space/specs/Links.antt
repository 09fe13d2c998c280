-- How the free places are linked.
use Rattle.std.specs.Prelude.{◌≡◌, ℕ, zero, suc, List, Bool, true, false, Option, Some, None, slice_get}
use Rattle.hg_space.specs.Places.{Seat, free, taken}
use Rattle.hg_space.specs.declared.place.Place.{Place}
use Rattle.hg_space.specs.declared.place.Place.TheVariants.{Free, Taken}

-- a place as callers see it
abbrev pub seen : Place → Seat
seen (Free next) = free
seen (Taken oldest) = taken oldest

-- whether a place is free
abbrev pub is_free : Place → Bool
is_free (Free next) = true
is_free (Taken oldest) = false

-- the next free place that a free place names
abbrev pub link_of : Place → Option ℕ
link_of (Free next) = next
link_of (Taken oldest) = None

-- beginning with this place, so many free places each name the next, and the last names none
abbrev pub AreLinked : List Place → ℕ → Option ℕ → Type 0
AreLinked slots zero first = first ≡ None
AreLinked slots (suc many) first = (here : ℕ) × (next : Option ℕ) × (first ≡ Some here) × (slice_get slots here ≡ Some (Free next)) × AreLinked slots many next
