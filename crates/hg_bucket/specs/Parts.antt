-- What a bucket holds, read from its parts: for the bucket itself.
use Rattle.std.specs.Prelude.{◌≡◌, ◌≢◌, ◌↔◌, ℕ, List, [], ◌∷◌, ◌++◌, take, slice_get, map, Option, Some, None, option_map, option_to_list, nat_le, if◌then◌else◌, ◌<◌, ◌^◌, length, is_some}
use Rattle.std.specs.Prelude.{IsTrue, ⊤, slice_index_or}
use Rattle.hg_base.specs.declared.rid.Rid.{Rid}
use Rattle.hg_base.specs.declared.image.Image.{Image}
use Rattle.hg_base.specs.Lists.{Each}
use Rattle.hg_chains.specs.declared.version.Stamp.{Stamp}
use Rattle.hg_chains.specs.declared.version.Stamp.TheVariants.{Written, Numbered}
use Rattle.hg_chains.specs.declared.version.Version.{Version}
use Rattle.hg_chains.specs.Places.{Places, list_at}
use Rattle.hg_space.specs.Places as seat
use Rattle.hg_space.specs.Places.{Seat, Oldest, image_at, IsTaken, free}
use Rattle.hg_space.specs.Index.{AreTaken, place_of}
use Rattle.hg_space.specs.declared.roster.Listed.{Listed}
use Rattle.hg_space.specs.Rosters.{list_of, keys_of, trimmed, Has}
use Rattle.hg_bucket.specs.BucketModel.{Kept}

-- a version of a chain
abbrev pub kept_as : Stamp → Image → Kept
kept_as (Written w) image = record { number = None; by = Some w; image = image }
kept_as (Numbered n w) image = record { number = Some n; by = Some w; image = image }

-- a version of a chain as a bucket has it: its number unless it is an open write, its writer and its image
abbrev pub kept : Version → Kept
kept v = kept_as v.stamp v.image

-- the oldest image of a record
abbrev pub oldest : ℕ × Image → Kept
oldest p = record { number = Some p.0; by = None; image = p.1 }

-- a record's versions: those of its chain, and behind them its oldest image
abbrev pub whole : List Version → Oldest → List Kept
whole vs image = map kept vs ++ option_to_list (option_map oldest image)

-- an oldest image that a reader at a snapshot sees
abbrev pub oldest_by : ℕ → Oldest → Option Image
oldest_by at None = None
oldest_by at (Some p) = if nat_le p.0 at then Some p.1 else None

-- the versions at a place
abbrev pub versions_at : Places → List Seat → ℕ → List Kept
versions_at chains places p = whole (list_at chains p) (image_at places p)

-- the records of the index, each with the versions at its place
abbrev pub records_of : List (Rid × ℕ) → Places → List Seat → List (Rid × List Kept)
records_of index chains places = map (λ e. (e.0, versions_at chains places e.1)) index

-- the number is over that of the oldest image
abbrev pub IsOver : Stamp → Oldest → Type 0
IsOver (Written w) image = ⊤
IsOver (Numbered n w) None = ⊤
IsOver (Numbered n w) (Some p) = p.0 < n

-- the oldest image is a row
abbrev pub IsRow : Oldest → Type 0
IsRow None = ⊤
IsRow (Some p) = IsTrue (is_some p.1.row)

-- each place that is taken is a record's
abbrev pub AreNamed : List (Rid × ℕ) → List Seat → Type 0
AreNamed index places = (p : ℕ) → IsTaken places p → (r : Rid) × (place_of index r ≡ Some p)

-- what is so of a chain and an oldest image: numbers fall down to the oldest image, which is a row
pub record Falls (vs : List Version) (image : Oldest) : Type 0 where
  pub over : Each (λ v. IsOver v.stamp image) vs
  pub row : IsRow image

-- what is always so of the parts: each record's place is taken, and no other; each chain stands at a place that is taken; at each
-- such place numbers fall; and at each that must have one there is a version
pub record AreWholeWhere (MustHave : ℕ → Type 0) (index : List (Rid × ℕ)) (chains : Places) (places : List Seat) : Type 0 where
  pub taken : AreTaken index places
  pub named : AreNamed index places
  pub chained : (p : ℕ) → 0 < length (list_at chains p) → IsTaken places p
  pub held : (p : ℕ) → MustHave p → IsTaken places p → 0 < length (versions_at chains places p)
  pub falls : (p : ℕ) → IsTaken places p → Falls (list_at chains p) (image_at places p)
  pub fits : (p : ℕ) → IsTaken places p → p < 2 ^ 32

-- there is a version at each place that is taken
abbrev pub AreWhole : List (Rid × ℕ) → Places → List Seat → Type 0
AreWhole index chains places = AreWholeWhere (λ p. ⊤) index chains places

-- ---- the lists of records that can be shortened

-- a record with its place, as its table's list has it
abbrev pub listed : Rid → ℕ → Listed
listed r p = record { key = r.key; place = p }

-- the list of the record's table has the record with that place
abbrev pub IsListed : List (List Listed) → Rid → ℕ → Type 0
IsListed longs r p = Has (list_of longs r.table.0) (listed r p)

-- the lists have each record that has a chain, and nothing else
abbrev pub AreListed : List (Rid × ℕ) → Places → List (List Listed) → Type 0
AreListed index chains longs = (r : Rid) (p : ℕ) → IsListed longs r p ↔ ((place_of index r ≡ Some p) × (0 < length (list_at chains p)))

-- the keys of each list
abbrev pub longs_of : List (List Listed) → List (List ℕ)
longs_of longs = trimmed (map keys_of longs)

-- what callers see of the parts
pub record Recorded : Type 0 where
  pub records : List (Rid × List Kept)
  pub long : List (List ℕ)

-- what is always so of the parts, and of the lists, which have each record that has a chain, and nothing else
pub record AreKept (index : List (Rid × ℕ)) (chains : Places) (places : List Seat) (longs : List (List Listed)) : Type 0 where
  pub whole : AreWhole index chains places
  pub listed : AreListed index chains longs

-- a record comes to the end of its table's list
pub record Enters (old new : List (List Listed)) (r : Rid) (p : ℕ) : Type 0 where
  pub last : list_of new r.table.0 ≡ list_of old r.table.0 ++ listed r p ∷ []
  pub others : (t : ℕ) → t ≢ r.table.0 → list_of new t ≡ list_of old t

-- the record of a place leaves its table's list: those in front of it stay
pub record Leaves (old new : List (List Listed)) (r : Rid) (p : ℕ) : Type 0 where
  pub front : (at : ℕ) (e : Listed) → slice_get (list_of old r.table.0) at ≡ Some e → e.place ≡ p → take at (list_of new r.table.0) ≡ take at (list_of old r.table.0)
  pub stay : (e : Listed) → Has (list_of new r.table.0) e ↔ (Has (list_of old r.table.0) e × e.place ≢ p)
  pub others : (t : ℕ) → t ≢ r.table.0 → list_of new t ≡ list_of old t

-- what a cut hands out of a chain becomes the oldest image, where it is a row; where nothing is handed out, that stays
abbrev pub settled : Oldest → Oldest → Oldest
settled None image = image
settled (Some p) image = if is_some p.1.row then Some p else None

-- ---- changing the parts

-- what stands at a place: a free seat past the end
abbrev pub seat_at : List Seat → ℕ → Seat
seat_at places p = slice_index_or places p free

-- each place but one is as before
abbrev pub SeatsStay : ℕ → List Seat → List Seat → Type 0
SeatsStay p old new = (q : ℕ) → q ≢ p → seat_at new q ≡ seat_at old q

-- each place has the chain that it had
abbrev pub ListsAlike : Places → Places → Type 0
ListsAlike old new = (q : ℕ) → list_at new q ≡ list_at old q

-- where nothing is written: each place has the chain that it had, and the lists are as they were
abbrev pub StayAsTheyWere : Places → Places → List (List Listed) → List (List Listed) → Type 0
StayAsTheyWere chains chains' longs longs' = ListsAlike chains chains' × (longs' ≡ longs)

-- each place is as before
abbrev pub AreAlike : List Seat → List Seat → Type 0
AreAlike old new = (q : ℕ) → seat_at new q ≡ seat_at old q

-- a place that was free is taken, and has no image
pub record IsGiven (old new : List Seat) (p : ℕ) : Type 0 where
  pub was : seat_at old p ≡ free
  pub now : seat_at new p ≡ seat.taken None
  pub others : SeatsStay p old new

-- at one place there may be no version left
abbrev pub MayBeBare : ℕ → List (Rid × ℕ) → Places → List Seat → Type 0
MayBeBare p index chains places = AreWholeWhere (λ q. q ≢ p) index chains places
