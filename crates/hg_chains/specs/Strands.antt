-- How versions stand in the nodes of an array: for the array itself.
use Rattle.std.specs.Prelude.{◌≡◌, ℕ, zero, suc, ◌+◌, ◌<◌, ◌^◌, List, [], ◌∷◌, ◌++◌, map, length, sum_by, slice_index_or, Option, Some, None, ⊤}
use Rattle.hg_base.specs.declared.writer.Writer.{Writer}
use Rattle.hg_chains.specs.declared.version.Stamp.TheVariants.{Numbered}
use Rattle.hg_chains.specs.declared.version.Version.{Version}
use Rattle.hg_chains.specs.declared.node.Node.{Node}
use Rattle.hg_chains.specs.declared.node.Strand.{Strand}
use Rattle.hg_chains.specs.declared.head.State.{State}
use Rattle.hg_chains.specs.declared.head.State.TheVariants.{Empty, Open, Stamped}
use Rattle.hg_chains.specs.declared.head.Head.{Head}
use Rattle.hg_base.specs.declared.image.Image.{Image}
use Rattle.hg_chains.specs.Versions.{open_write}

-- ---- what is read past an end

-- the node that is read past the end: all numbers are 0, and it has no row
abbrev pub blank : Node
blank = record { next = 0; session = 0; transaction = 0; number = 0; image = record { row = None } }

-- the node at an index: the blank one past the end
abbrev pub node_at : List Node → ℕ → Node
node_at nodes i = slice_index_or nodes i blank

-- the head that is read past the end: it has no version
abbrev pub no_head : Head
no_head = record { strand = record { first = 0; count = 0 }; session = 0; state = Empty; transaction = 0; number = 0; image = record { row = None } }

-- the head of a place: the empty one past the end
abbrev pub head_at : List Head → ℕ → Head
head_at heads p = slice_index_or heads p no_head

-- a free node names the next free one, and has no image
abbrev pub freed : ℕ → Node → Node
freed next n = record n { next = next; image = record { row = None } }

-- ---- the newest version of a place

-- the transaction that a head names as its version's writer
abbrev pub first_writer : Head → Writer
first_writer h = record { session = h.session; transaction = h.transaction }

-- no version, an open write, or a version with a number, as the state says
abbrev pub front_by : State → Writer → ℕ → Image → List Version
front_by Empty by number image = []
front_by Open by number image = open_write by image ∷ []
front_by Stamped by number image = record { stamp = Numbered number by; image = image } ∷ []

-- the newest version of a place, or none
abbrev pub front_of : Head → List Version
front_of h = front_by h.state (first_writer h) h.number h.image

-- the number that goes with a state
abbrev pub number_by : State → ℕ → Option ℕ
number_by Empty number = None
number_by Open number = None
number_by Stamped number = Some number

-- the number of the newest version, if it has one
abbrev pub first_number : Head → Option ℕ
first_number h = number_by h.state h.number

-- the head with an open write as its newest version
abbrev pub with_open : Writer → Image → Head → Head
with_open by image h = record h { session = by.session; state = Open; transaction = by.transaction; number = 0; image = image }

-- the head with a version as its newest that has a number
abbrev pub with_number : Writer → ℕ → Image → Head → Head
with_number by number image h = record h { session = by.session; state = Stamped; transaction = by.transaction; number = number; image = image }

-- the newest version, as the node that comes to have it: what is behind it comes behind the node
abbrev pub node_of : Head → Node
node_of h = record { next = h.strand.first; session = h.session; transaction = h.transaction; number = h.number; image = h.image }

-- ---- the others

-- the transaction that a node names as its version's writer
abbrev pub writer_in : Node → Writer
writer_in n = record { session = n.session; transaction = n.transaction }

-- the version that a node has
abbrev pub version_in : Node → Version
version_in n = record { stamp = Numbered n.number (writer_in n); image = n.image }

-- the versions of so many nodes from one on, each of which names the next
abbrev pub versions : List Node → ℕ → ℕ → List Version
versions nodes zero i = []
versions nodes (suc n) i = version_in (node_at nodes i) ∷ versions nodes n (node_at nodes i).next

-- those nodes themselves
abbrev pub nodes_along : List Node → ℕ → ℕ → List ℕ
nodes_along nodes zero i = []
nodes_along nodes (suc n) i = i ∷ nodes_along nodes n (node_at nodes i).next

-- ---- both

-- the versions of a head but for the newest
abbrev pub tail_of : List Node → Head → List Version
tail_of nodes h = versions nodes h.strand.count h.strand.first

-- the nodes that they stand in, in the same order
abbrev pub nodes_of : List Node → Head → List ℕ
nodes_of nodes h = nodes_along nodes h.strand.count h.strand.first

-- the versions of a head, newest first
abbrev pub versions_of : List Node → Head → List Version
versions_of nodes h = front_of h ++ tail_of nodes h

-- the versions of a head, with the nodes that have all but the newest
abbrev pub chain_of : List Node → Head → List Version × List ℕ
chain_of nodes h = (versions_of nodes h, nodes_of nodes h)

-- the versions of each head, in the order of the heads
abbrev pub lists_in : List Head → List Node → List (List Version)
lists_in heads nodes = map (versions_of nodes) heads

-- the node so many behind one
abbrev pub node_behind : List Node → ℕ → ℕ → ℕ
node_behind nodes zero i = i
node_behind nodes (suc k) i = node_behind nodes k (node_at nodes i).next

-- ---- strands apart from one another

-- so many nodes from one on: each is there, has that owner, and ranks below the one that names it
abbrev pub IsStrand : List Node → (ℕ → ℕ) → (ℕ → ℕ) → ℕ → ℕ → ℕ → ℕ → Type 0
IsStrand nodes owner rank who bound zero i = ⊤
IsStrand nodes owner rank who bound (suc n) i = (i < length nodes) × (owner i ≡ who) × (rank i < bound) × IsStrand nodes owner rank who (rank i) n (node_at nodes i).next

-- the strand of an owner: 0 owns the free nodes, and 1 + p those of place p
abbrev pub strand_of : List Head → Strand → ℕ → Strand
strand_of heads free zero = free
strand_of heads free (suc p) = (head_at heads p).strand

-- each node stands in one strand at most, and once; and as many nodes as there are stand in one
pub record AreStrands (heads : List Head) (nodes : List Node) (free : Strand) : Type 0 where
  pub owner : ℕ → ℕ
  pub rank : ℕ → ℕ
  pub top : ℕ → ℕ
  pub strands : (who : ℕ) → IsStrand nodes owner rank who (top who) (strand_of heads free who).count (strand_of heads free who).first
  pub all : length nodes ≡ free.count + sum_by (λ h. h.strand.count) heads
  pub fits : length nodes < 2 ^ 32

-- a place with no newest version has no others
abbrev pub NoneBehind : List Head → Type 0
NoneBehind heads = (p : ℕ) → (head_at heads p).state ≡ Empty → (head_at heads p).strand.count ≡ 0
