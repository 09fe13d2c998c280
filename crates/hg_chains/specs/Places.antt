-- The versions of all records of a bucket, by their places.
use Rattle.std.specs.Prelude.{◌≡◌, ◌≢◌, ℕ, ◌+◌, ◌-◌, ◌==◌, ◌&&◌, Bool, if◌then◌else◌, List, [], length, sum_by, slice_index_or}
use Rattle.hg_chains.specs.declared.version.Version.{Version}

-- a list of versions for each place, newest first, and how many nodes are free
pub record Places : Type 0 where
  pub lists : List (List Version)
  pub free : ℕ

-- the versions of a place: none past the end
abbrev pub list_at : Places → ℕ → List Version
list_at held p = slice_index_or held.lists p []

-- how many nodes there are: a node for each version, and the free ones
abbrev pub nodes_of : Places → ℕ
nodes_of held = held.free + sum_by length held.lists

-- each other place has the versions that it had
abbrev pub OthersStay : ℕ → Places → Places → Type 0
OthersStay place old new = (q : ℕ) → q ≢ place → list_at new q ≡ list_at old q

-- a version that is added takes a free node, and a node is added only where none is free
abbrev pub TakesNode : Bool → Places → Places → Type 0
TakesNode added old new =
    (nodes_of new ≡ nodes_of old + (if added && (old.free == 0) then 1 else 0)) × (new.free ≡ old.free - (if added then 1 else 0))
