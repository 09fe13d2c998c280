-- What becomes of a write: for the bucket itself.
use Rattle.std.specs.Prelude.{◌≡◌, ℕ, ◌+◌, List, Bool, not, if◌then◌else◌, IfSome, Result, Err, IfOk, IfErr, OnOk, OnErr}
use Rattle.hg_base.specs.declared.rid.Rid.{Rid}
use Rattle.hg_base.specs.declared.image.Image.{Image}
use Rattle.hg_base.specs.declared.writer.Writer.{Writer}
use Rattle.hg_bucket.specs.declared.refusal.WriteRefusal.{WriteRefusal}
use Rattle.hg_bucket.specs.BucketModel.{Kept, versions_of, begins_open, installed, OthersStay, left}
use Rattle.hg_bucket.specs.Conflicts.{conflict, IsCause}

-- into a record
pub record Writes (by : Writer) (image : Image) (snapshot mark : ℕ) (old new : List (Rid × List Kept)) (r : Rid) (answer : Result Bool WriteRefusal) : Type 0 where
  pub refusal : IfSome (conflict by snapshot mark (versions_of old r)) (λ e. answer ≡ Err e)
  pub cause : IfErr answer (IsCause by snapshot mark (versions_of old r))
  pub stored : OnOk answer (versions_of new r ≡ installed by image (versions_of old r))
  pub others : OthersStay old new r
  pub added : IfOk answer (λ added. added ≡ not (begins_open by (versions_of old r)))
  pub left : IfOk answer (λ added. left new ≡ left old + (if added then 1 else 0))
  pub refused : OnErr answer (new ≡ old)
