-- What a clause says of a store, and of a bucket that is held.
use Rattle.std.specs.Prelude.{◌≡◌, ℕ, List, [], ◌∷◌}
use Rattle.hg_lock.specs.Locks.{tag_of, count_of}
use Rattle.hg_bucket.specs.BucketModel.{BucketModel}
use Rattle.hg_rule.specs.declared.view.BucketPart.{BucketPart}
use Rattle.hg_rule.specs.declared.view.Part.TheVariants.{OfBucket}
use Rattle.hg_rule.specs.declared.view.Sight.{Sight}
use Rattle.hg_rule.specs.declared.view.View.{View}
use Rattle.hg_rule.specs.Views.{seeing}
use Rattle.hg_rule.specs.Holding.{bucket}
use Rattle.hg_rule.specs.Places.{HoldsBucket, with_bucket}
use Rattle.hg_rule.specs.Seats.{BoardId}
use Rattle.hg_store.specs.declared.store.Store.{Store}
use Rattle.hg_store.specs.declared.held.Held.{Held}
use Rattle.hg_store.specs.Kept.{Keeps, AreOrdered}
use Rattle.hg_store.specs.Slots.{seat_board_id}

-- the board of a store
abbrev pub store_board_id : Store → BoardId
store_board_id s = seat_board_id (tag_of s.locks).value

-- how many buckets a store has
abbrev pub store_buckets : Store → ℕ
store_buckets s = count_of s.locks

-- the board of a bucket that is held
abbrev pub held_board_id : Held → BoardId
held_board_id h = seat_board_id (tag_of h.locks.now).value

-- the number of a bucket that is held
abbrev pub held_number : Held → ℕ
held_number h = h.number

-- what a bucket that is held keeps
abbrev pub held_records : Held → BucketModel
held_records h = h.bucket.value

-- The view has this bucket, joined last, whose versions are in order; and the bucket keeps what the view shows.
pub record Holds (v : View) (h : Held) : Type 0 where
  pub has : HoldsBucket (held_number h) v
  pub keeps : Keeps (held_records h) (bucket v)
  pub ordered : AreOrdered (bucket v).content

-- w is v with bucket b, which comes with what its earlier holders had seen
pub record Takes (v : View) (b : ℕ) (w : View) : Type 0 where
  pub part : BucketPart
  pub seen : List Sight
  pub after : w ≡ with_bucket v (seeing (OfBucket b part ∷ []) seen [])
