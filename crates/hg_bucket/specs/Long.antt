-- Which records a cut or a sweep can shorten.
use Rattle.std.specs.Prelude.{◌≡◌, ℕ, List, Some, IsTrue, IsFalse, slice_get}
use Rattle.hg_base.specs.declared.rid.Rid.{Rid}
use Rattle.hg_base.specs.declared.rid.TableId.{TableId}
use Rattle.hg_bucket.specs.BucketModel.{Kept, versions_of, record_at, cut_at}
use Rattle.hg_bucket.specs.Sweeping.{swept, IsClean, is_long}

-- no version goes by any cut or sweep, and it is clean already
pub record IsShort (vs : List Kept) : Type 0 where
  pub one : IsFalse (is_long vs)
  pub cut : (bound : ℕ) → cut_at bound vs ≡ vs
  pub swept : (horizon : ℕ) (snapshots : List ℕ) → swept horizon snapshots vs ≡ vs
  pub clean : (horizon : ℕ) (snapshots : List ℕ) → IsClean horizon snapshots vs

-- no key stands twice
abbrev pub NoKeyTwice : List ℕ → Type 0
NoKeyTwice keys = (i j k : ℕ) → slice_get keys i ≡ Some k → slice_get keys j ≡ Some k → i ≡ j

-- these are the keys of a table, in whatever order, whose records have more than an oldest image: each other record is short
pub record AreLong (keys : List ℕ) (table : TableId) (records : List (Rid × List Kept)) : Type 0 where
  pub once : NoKeyTwice keys
  pub long : (at k : ℕ) → slice_get keys at ≡ Some k → IsTrue (is_long (versions_of records (record_at table k)))
  pub rest : (k : ℕ) → ((at : ℕ) → slice_get keys at ≡ Some k → ⊥) → IsShort (versions_of records (record_at table k))
