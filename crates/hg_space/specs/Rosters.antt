-- For each table a list of some of its records, each with its place.
use Rattle.std.specs.Prelude.{◌≡◌, ℕ, List, [], ◌∷◌, map, Some, slice_get, slice_index_or, Vec}
use Rattle.std.specs.declared.alloc.Global.{Global}
use Rattle.hg_space.specs.declared.roster.Listed.{Listed}
use Rattle.hg_space.specs.declared.roster.Standing.{Standing}

-- the list of a table, where lists stand in the order of the tables: empty past the last one
abbrev pub list_of : {X : Type 0} → List (List X) → ℕ → List X
list_of lists table = slice_index_or lists table []

-- the lists that these vectors hold
abbrev pub lists_in : List (Vec Listed Global) → List (List Listed)
lists_in lists = map (λ v. v.items) lists

-- such lists with one in front, which isn't kept where all are empty
abbrev pub before : {X : Type 0} → List X → List (List X) → List (List X)
before [] [] = []
before [] (list ∷ lists) = [] ∷ list ∷ lists
before (x ∷ xs) lists = (x ∷ xs) ∷ lists

-- without the empty lists at the end, so that equal lists of each table are the same lists of lists
abbrev pub trimmed : {X : Type 0} → List (List X) → List (List X)
trimmed [] = []
trimmed (list ∷ lists) = before list (trimmed lists)

-- the keys of a list's records
abbrev pub keys_of : List Listed → List ℕ
keys_of list = map (λ e. e.key) list

-- a list has that record
abbrev pub Has : List Listed → Listed → Type 0
Has list e = (at : ℕ) × (slice_get list at ≡ Some e)

-- a list has a record of that place
abbrev pub StandsIn : List Listed → ℕ → Type 0
StandsIn list place = (e : Listed) × (Has list e × (e.place ≡ place))

-- no list has one
abbrev pub StandsNowhere : List (List Listed) → ℕ → Type 0
StandsNowhere lists place = (table : ℕ) → StandsIn (list_of lists table) place → ⊥

-- no place stands twice, in one list or in two
abbrev pub StandOnce : List (List Listed) → Type 0
StandOnce lists = (t u i j : ℕ) (e f : Listed) → slice_get (list_of lists t) i ≡ Some e → slice_get (list_of lists u) j ≡ Some f → e.place ≡ f.place → (t ≡ u) × (i ≡ j)

-- the standing of the record at that index of a table's list
abbrev pub standing_at : ℕ → ℕ → Standing
standing_at table at = record { table = record { 0 = table }; at = at }

-- each record of a list stands where its place says
abbrev pub AreStanding : List (List Listed) → List Standing → Type 0
AreStanding lists standings = (table at : ℕ) (e : Listed) → slice_get (list_of lists table) at ≡ Some e → slice_get standings e.place ≡ Some (standing_at table at)
