-- What a pass makes of a table in a bucket that it holds.
use Rattle.std.specs.Prelude.{◌≡◌, ℕ, ◌+◌, ◌≤◌, List, [], ◌∷◌, map, length, sum_by, IsTrue, Contains, ◌↔◌, slice_get, Some}
use Rattle.std.specs.List.Sorted.{IsNonDecreasing}
use Rattle.hg_base.specs.declared.rid.Rid.{Rid}
use Rattle.hg_base.specs.declared.rid.TableId.{TableId}
use Rattle.hg_base.specs.declared.report.Kind.{Kind}
use Rattle.hg_base.specs.Lists.{Each}
use Rattle.hg_base.specs.History.{NoneTwice}
use Rattle.hg_core.specs.Counters.{total, removed_more}
use Rattle.hg_core.specs.Passes.{PassRecord, recorded, horizon}
use Rattle.hg_bucket.specs.BucketModel.{long_keys, record_at}
use Rattle.hg_bucket.specs.Sweeping.{is_long}
use Rattle.hg_rule.specs.declared.view.View.{View}
use Rattle.hg_rule.specs.Views.{number, pass}
use Rattle.hg_rule.specs.Holding.{bucket_number, bucket, beyond, held}
use Rattle.hg_rule.specs.Removes.{left_of, visiting, Reclaims}
use Rattle.hg_store.specs.declared.held.Held.{Held}
use Rattle.hg_store.specs.Kept.{kept}
use Rattle.hg_store.specs.Stores.{held_records}

-- w is v after the pass reclaimed these records, one after the other
abbrev pub ReclaimsAll : View → List Rid → Kind → View → Type 0
ReclaimsAll v [] kind w = w ≡ v
ReclaimsAll v (rid ∷ rids) kind w = (x : View) × (Reclaims v rid kind x × ReclaimsAll x rids kind w)

-- a record of the table that has more than its oldest image
abbrev pub IsLongOf : TableId → View → Rid → Type 0
IsLongOf table v r = (r.table ≡ table) × IsTrue (is_long (map kept (held v r)))

-- The pass visits records of the table, each once, that have more than their oldest image, and takes of each what its kind of
-- collector takes.
pub record Clears (v : View) (table : TableId) (kind : Kind) (w : View) : Type 0 where
  pub visited : List Rid
  pub once : NoneTwice visited
  pub are_long : Each (IsLongOf table v) visited
  pub steps : ReclaimsAll v visited kind w

-- So many versions went. The pass's visit and the bucket's counters have them for that kind, and nothing else is counted. The
-- pass's record, its other parts and what it has seen are as before.
pub record Counts (v : View) (kind : Kind) (gone : ℕ) (w : View) : Type 0 where
  pub same_number : number w ≡ number v
  pub visit : pass w ≡ visiting kind gone (pass v)
  pub same_bucket : bucket_number w ≡ bucket_number v
  pub counters : (bucket w).counters ≡ record (bucket v).counters { removed = removed_more kind gone (bucket v).counters.removed }
  pub versions : total (bucket w).content + gone ≡ total (bucket v).content
  pub rest : beyond w ≡ beyond v
  pub sights : w.sights ≡ v.sights

-- A count of steps rose at most by what some records of the table cost, each once, that have more than their oldest image: the
-- versions of each, and so many snapshots.
pub record Spends (v : View) (table : TableId) (snapshots before after : ℕ) : Type 0 where
  pub looked : List Rid
  pub once : NoneTwice looked
  pub are_long : Each (IsLongOf table v) looked
  pub few : after ≤ before + sum_by (λ r. length (held v r) + snapshots) looked

-- the same numbers stand in two lists, in whatever order
abbrev pub HaveSame : List ℕ → List ℕ → Type 0
HaveSame xs ys = (n : ℕ) → Contains xs n ↔ Contains ys n

-- the bucket's list of the table's records that have more than their oldest image has this record at that index
abbrev pub IsListedAt : Rid → ℕ → Held → Type 0
IsListedAt r at h = slice_get (long_keys (held_records h) r.table) at ≡ Some r.key

-- what a collector gathered for a table, by the pass's record: its horizon, and the snapshots that count there, ascending
abbrev pub AreGathered : PassRecord → TableId → ℕ → List ℕ → Type 0
AreGathered p table horizon_ snapshots = (horizon_ ≡ horizon p) × IsNonDecreasing snapshots × HaveSame snapshots (recorded table p)

-- each record of the table has what its kind of collector leaves of it, and the records of other tables are as before
abbrev pub Leaves : View → TableId → Kind → View → Type 0
Leaves v table kind w = ((k : ℕ) → held w (record_at table k) ≡ left_of v (record_at table k) kind) × ((r : Rid) → (r.table ≡ table → ⊥) → held w r ≡ held v r)
