-- Landmarks of chains, and what the chains of all places are, with their landmarks.
use Rattle.std.specs.Prelude.{◌≡◌, ℕ, ◌+◌, ◌-◌, ◌%◌, ◌<◌, ◌≤◌, ◌^◌, vec_capacity, List, [], ◌∷◌, length, map, slice_index_or, Option, Some, None, Vec}
use Rattle.std.specs.declared.alloc.Global.{Global}
use Rattle.hg_base.specs.Lists.{Each, Ascends}
use Rattle.hg_chains.specs.declared.version.Stamp.{Stamp}
use Rattle.hg_chains.specs.declared.version.Stamp.TheVariants.{Written, Numbered}
use Rattle.hg_chains.specs.declared.version.Version.{Version}
use Rattle.hg_chains.specs.declared.landmarks.Landmark.{Landmark}
use Rattle.hg_chains.specs.declared.landmarks.Landmarks.{Landmarks}
use Rattle.hg_chains.specs.declared.arena.Arena.{Arena}
use Rattle.hg_chains.specs.Versions.{IsChain, newest}
use Rattle.hg_chains.specs.Places.{Places, nodes_of}
use Rattle.hg_chains.specs.Strands.{lists_in, node_at}
use Rattle.hg_chains.specs.Arenas.{IsArena, list_in, nodes_in}

-- the landmarks of a place: none past the end
abbrev pub landmarks_at : List (Vec Landmark Global) → ℕ → List Landmark
landmarks_at lists p = slice_index_or (map (λ v. v.items) lists) p []

-- the landmarks of a place, among those of all places
abbrev pub landmarks_of : Landmarks → ℕ → List Landmark
landmarks_of ms p = landmarks_at ms.lists.items p

-- how many versions may leave their nodes, so that they have no landmark: the second one, if the newest may be undone
abbrev pub movable_by : Option Stamp → ℕ
movable_by None = 0
movable_by (Some (Written w)) = 1
movable_by (Some (Numbered number by)) = 0

-- how many versions of a chain may leave their nodes: the stamp of the newest tells it
abbrev pub movable : List Version → ℕ
movable vs = movable_by (newest vs)

-- a landmark names the node that is so many versions before the end of the chain: a multiple of 32
pub record IsLandmark (vs : List Version) (nodes : List ℕ) (m : Landmark) : Type 0 where
  pub some : 0 < m.height
  pub stride : m.height % 32 ≡ 0
  pub behind : m.height + movable vs ≤ length nodes
  pub node : slice_index_or nodes (length nodes - m.height) 0 ≡ m.node

-- a landmark is one of the chain that a place has in an arena
abbrev pub IsLandmarkIn : Arena → ℕ → Landmark → Type 0
IsLandmarkIn a p m = IsLandmark (list_in a p) (nodes_in a p) m

-- each of the list is a landmark of that place's chain, and their heights rise along the list
pub record HasLandmarks (a : Arena) (p : ℕ) (ms : List Landmark) : Type 0 where
  pub each : Each (IsLandmarkIn a p) ms
  pub rise : Ascends (map (λ m. m.height) ms)

-- for each place, all of its landmarks are landmarks of its chain
abbrev pub AreLandmarks : Arena → Landmarks → Type 0
AreLandmarks a ms = (p : ℕ) → HasLandmarks a p (landmarks_of ms p)

-- the height of the last landmark, which is the highest: 0 where there is none
abbrev pub top_of : List Landmark → ℕ
top_of [] = 0
top_of (m ∷ []) = m.height
top_of (m ∷ n ∷ ms) = top_of (n ∷ ms)

-- behind the newest version there are so many that the second of them is to have a landmark
abbrev pub IsDue : ℕ → Type 0
IsDue count = (32 < count) × ((count - 1) % 32 ≡ 0)

-- a landmark's version is newer than the bound
abbrev pub IsOver : Arena → ℕ → Landmark → Type 0
IsOver a bound m = bound < (node_at a.nodes.items m.node).number

-- what callers see of an arena, with so many free nodes
abbrev pub places_in : Arena → ℕ → Places
places_in a free = record { lists = lists_in a.heads.items a.nodes.items; free = free }

-- each place's versions are a chain. There is room for so many versions, of which so many are free, and each version but the newest of its
-- place needs a node
pub record Holds (a : Arena) (ms : Landmarks) (all : ℕ) (free : ℕ) : Type 0 where
  pub arena : IsArena a
  pub chains : (p : ℕ) → IsChain (list_in a p)
  pub landmarks : AreLandmarks a ms
  pub sum : all ≡ nodes_of (places_in a free)
  pub room : all ≤ vec_capacity a.nodes
  pub few : all < 2 ^ 32
