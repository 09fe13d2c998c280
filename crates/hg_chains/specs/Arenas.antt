-- What an arena holds, and where a walk along one of its strands stands.
use Rattle.std.specs.Prelude.{◌≡◌, ◌≢◌, ℕ, zero, suc, ◌+◌, ◌<◌, ◌^◌, List, drop, length, vec_len, vec_capacity, ⊤}
use Rattle.hg_chains.specs.declared.version.Version.{Version}
use Rattle.hg_chains.specs.declared.node.Node.{Node}
use Rattle.hg_chains.specs.declared.head.Head.{Head}
use Rattle.hg_chains.specs.declared.cursor.Cursor.{Cursor}
use Rattle.hg_chains.specs.declared.arena.Arena.{Arena}
use Rattle.hg_chains.specs.Strands.{AreStrands, NoneBehind, head_at, front_of, tail_of, versions_of, nodes_of, chain_of, node_behind}

-- the strands of an arena, that of its free nodes among them, stand apart and have all of its nodes, fewer than 2 ^ 32; and only behind a
-- newest version are there others
pub record IsArena (a : Arena) : Type 0 where
  pub strands : AreStrands a.heads.items a.nodes.items a.free
  pub behind : NoneBehind a.heads.items

-- the head of a place in an arena: an empty one past the end
abbrev pub head_in : Arena → ℕ → Head
head_in a p = head_at a.heads.items p

-- the versions of a place in an arena, newest first
abbrev pub list_in : Arena → ℕ → List Version
list_in a p = versions_of a.nodes.items (head_in a p)

-- the newest version of a place in an arena, or none
abbrev pub front_in : Arena → ℕ → List Version
front_in a p = front_of (head_in a p)

-- the versions of a place in an arena but for the newest
abbrev pub tail_in : Arena → ℕ → List Version
tail_in a p = tail_of a.nodes.items (head_in a p)

-- the nodes in which those stand, in the same order
abbrev pub nodes_in : Arena → ℕ → List ℕ
nodes_in a p = nodes_of a.nodes.items (head_in a p)

-- the versions of a place in an arena, with the nodes that have all but the newest
abbrev pub chain_in : Arena → ℕ → List Version × List ℕ
chain_in a p = chain_of a.nodes.items (head_in a p)

-- each other place has the versions that it had, in the nodes in which they were
abbrev pub OthersStayIn : ℕ → Arena → Arena → Type 0
OthersStayIn place old new = (q : ℕ) → q ≢ place → chain_in new q ≡ chain_in old q

-- a version is put in front: those behind the newest that was there stay in their nodes
abbrev pub PushesIn : ℕ → Arena → Arena → Type 0
PushesIn place old new = drop 1 (nodes_in new place) ≡ nodes_in old place

-- the newest version goes: those behind the second one, which is the newest then, stay in their nodes
abbrev pub PopsIn : ℕ → Arena → Arena → Type 0
PopsIn place old new = nodes_in new place ≡ drop 1 (nodes_in old place)

-- each head is as it was, but for its strand: so each place has the newest version that it had
abbrev pub FrontsStay : Arena → Arena → Type 0
FrontsStay old new = (q : ℕ) → head_in new q ≡ record (head_in old q) { strand = (head_in new q).strand }

-- as many nodes as before, and room for as many
abbrev pub NodesStay : Arena → Arena → Type 0
NodesStay old new = (length new.nodes.items ≡ length old.nodes.items) × (vec_capacity new.nodes ≡ vec_capacity old.nodes)

-- so many versions go, and no node is added
abbrev pub RemovesIn : ℕ → Arena → Arena → Type 0
RemovesIn gone old new = NodesStay old new × (gone ≡ 0 → new ≡ old)

-- a version can be added at a place: it has a head, and a node is free, or can be added without memory
pub record HasRoom (a : Arena) (place : ℕ) : Type 0 where
  pub head : place < length a.heads.items
  pub node : a.free.count ≡ 0 → (vec_len a.nodes < vec_capacity a.nodes) × (vec_len a.nodes + 1 < 2 ^ 32)

-- the last node that was passed
abbrev pub IsLast : List Node → ℕ → ℕ → ℕ → Type 0
IsLast nodes first zero last = ⊤
IsLast nodes first (suc k) last = node_behind nodes k first ≡ last

-- the walk stands before the node that is so many behind the first
pub record IsAt (a : Arena) (place : ℕ) (cursor : Cursor) : Type 0 where
  pub at : node_behind a.nodes.items cursor.kept (head_in a place).strand.first ≡ cursor.at
  pub last : IsLast a.nodes.items (head_in a place).strand.first cursor.kept cursor.last
