-- What lies under a bucket's lock.
use Rattle.std.specs.Prelude.{◌≡◌, ℕ}
use Rattle.std.specs.declared.snapshot.Snapshot.{Snapshot}
use Rattle.hg_rule.specs.declared.passes.BucketSeat.{BucketSeat}
use Rattle.hg_rule.specs.Views.{bucket_there, first_in}
use Rattle.hg_rule.specs.Seats.{BoardId, bucket_seat, bucket_rest, bucket_view, IsBucketOf}
use Rattle.hg_store.specs.declared.store.Slot.{Slot}
use Rattle.hg_store.specs.Kept.{Keeps}

-- the board of a bucket's seat
abbrev pub seat_board_id : BucketSeat → BoardId
seat_board_id s = (bucket_seat s).table_id

-- the seat is of the tag's board and of bucket k, and the bucket keeps the content that the seat shows
abbrev pub SlotFits : Snapshot BucketSeat → ℕ → Slot → Type 0
SlotFits tag k x = IsBucketOf (seat_board_id tag.value) x.seat × (((bucket_rest x.seat).0 ≡ k) × Keeps x.bucket.value (bucket_there (first_in (bucket_view x.seat).parts)))
