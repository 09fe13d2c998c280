-- How transactions end, and what is kept of it.
use Rattle.std.specs.Prelude.{◌≡◌, ℕ, min, List, [], ◌∷◌, filter, Bool, IsFalse, IsTrue, Option, Some, None, unwrap_or}
use Rattle.std.specs.List.{list_any}
use Rattle.std.specs.BTreeMap.{get}
use Rattle.std.specs.declared.cmp.Ordering.{Ordering}
use Rattle.std.specs.Ordering.{nat_cmp, ordering_then}
use Rattle.hg_base.specs.declared.rid.Rid.{Rid}
use Rattle.hg_base.specs.declared.image.Image.{Image}
use Rattle.hg_base.specs.Transcript.{Said, is_of, ends, numbers_in}
use Rattle.hg_known.specs.declared.own.Tx.{Tx}
use Rattle.hg_known.specs.declared.own.Spot.{Spot}
use Rattle.hg_known.specs.declared.context.Numbers.{Numbers}
use Rattle.hg_known.specs.Owned.{IsOwn, own_at}

-- transaction x of session j
abbrev pub tx : ℕ → ℕ → Tx
tx j x = record { session = j; number = x }

-- transactions in the order of their sessions, and then of their numbers
abbrev pub tx_order : Tx → Tx → Ordering
tx_order a b = ordering_then (nat_cmp a.session b.session) (nat_cmp a.number b.number)

-- whether a line ends transaction x of session j
abbrev pub is_over : ℕ → ℕ → List Said → Bool
is_over j x lines = list_any ends (filter (is_of j x) lines)

-- the least, if there is one
abbrev pub least_of : List ℕ → Option ℕ
least_of [] = None
least_of (n ∷ ns) = Some (min n (unwrap_or (least_of ns) n))

-- of each transaction, the least commit number that the earlier lines print of it is kept
abbrev pub AreNumbers : Numbers → List Said → Type 0
AreNumbers numbers earlier = (j x : ℕ) → get tx_order numbers.least (tx j x) ≡ least_of (numbers_in j x earlier)

-- the transaction of a line did not end before it
abbrev pub IsOpen : List Said → Said → Type 0
IsOpen earlier now = IsFalse (is_over now.session now.transaction earlier)

-- of each transaction that did not end, what it stored
abbrev pub AreOpenOwn : List (Spot × Image) → List Said → Type 0
AreOpenOwn own earlier = (j x : ℕ) → IsFalse (is_over j x earlier) → (r : Rid) → IsOwn own earlier j x r

-- of each transaction that ended, nothing is kept
abbrev pub ForgetsOver : List (Spot × Image) → List Said → Type 0
ForgetsOver own earlier = (j x : ℕ) → IsTrue (is_over j x earlier) → (r : Rid) → own_at own j x r ≡ None
