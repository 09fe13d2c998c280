-- What a bucket keeps of the content that its seat shows.
use Rattle.std.specs.Prelude.{◌≡◌, ℕ, ◌+◌, ◌<◌, ◌≤◌, [], map, Option, Some, None, IfSome}
use Rattle.hg_base.specs.declared.rid.Rid.{Rid}
use Rattle.hg_base.specs.declared.image.Image.{Image}
use Rattle.hg_base.specs.declared.rid.TableId.{TableId}
use Rattle.hg_base.specs.declared.line.Totals.{Totals}
use Rattle.hg_base.specs.declared.line.Answer.{Answer}
use Rattle.hg_base.specs.declared.line.Answer.TheVariants as answers
use Rattle.hg_core.specs.declared.version.Stamp.{Stamp}
use Rattle.hg_core.specs.declared.version.Stamp.TheVariants.{Written, Numbered, Oldest}
use Rattle.hg_core.specs.declared.version.Version.{Version}
use Rattle.hg_core.specs.declared.visit.Counters.{Counters}
use Rattle.hg_core.specs.Contents.{Content, look}
use Rattle.hg_core.specs.Ordered.{IsOrdered}
use Rattle.hg_bucket.specs.BucketModel.{Kept, BucketModel, versions_of, record_at}
use Rattle.hg_bucket.specs.declared.refusal.WriteRefusal.{WriteRefusal}
use Rattle.hg_bucket.specs.declared.refusal.WriteRefusal.TheVariants.{Open, Newer}
use Rattle.hg_rule.specs.declared.view.BucketPart.{BucketPart}

-- a version with this stamp and this image, as a bucket keeps it
abbrev pub kept_as : Stamp → Image → Kept
kept_as (Written by) image = record { number = None; by = Some by; image = image }
kept_as (Numbered number by) image = record { number = Some number; by = Some by; image = image }
kept_as (Oldest number) image = record { number = Some number; by = None; image = image }

-- a version as a bucket keeps it
abbrev pub kept : Version → Kept
kept v = kept_as v.stamp v.image

-- a bucket keeps of each record the versions that the content has, and counts what the counters say
pub record Keeps (bucket : BucketModel) (part : BucketPart) : Type 0 where
  pub versions : (r : Rid) → versions_of bucket.records r ≡ map kept (look r part.content)
  pub made : bucket.made ≡ part.counters.made
  pub undone : bucket.undone ≡ part.counters.undone
  pub group : bucket.group ≡ part.counters.removed.group
  pub table : bucket.table ≡ part.counters.removed.table
  pub interval : bucket.interval ≡ part.counters.removed.interval

-- at most the first version of each record is open or stamped, and numbers fall
abbrev pub AreOrdered : Content → Type 0
AreOrdered content = (r : Rid) → (mark : ℕ) × IsOrdered mark (look r content)

-- a refusal as a bucket says it
abbrev pub refusal_of : Answer → Option WriteRefusal
refusal_of (answers.Newer number) = Some (Newer number)
refusal_of (answers.OpenBy by) = Some (Open by.session by.transaction)
refusal_of _ = None

-- ---- what a caller reads

-- the counts are those of the counters, and what is left is what was made less all that is gone
pub record AreCountsOf (counters : Counters) (totals : Totals) : Type 0 where
  pub made : totals.made ≡ counters.made
  pub undone : totals.undone ≡ counters.undone
  pub group : totals.group ≡ counters.removed.group
  pub table : totals.table ≡ counters.removed.table
  pub interval : totals.interval ≡ counters.removed.interval
  pub left : totals.made ≡ totals.undone + totals.group + totals.table + totals.interval + totals.left

-- no record of the table between a number and the key that was found has a version
abbrev pub NoneBetween : Content → TableId → ℕ → Option ℕ → Type 0
NoneBetween content table from found = (k : ℕ) → from ≤ k → IfSome found (λ key. k < key) → look (record_at table k) content ≡ []
