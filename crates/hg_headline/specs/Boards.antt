-- A bucket that is settled.
use Rattle.std.specs.Prelude.{◌≡◌, ℕ, None}
use Rattle.hg_base.specs.declared.rid.Rid.{Rid}
use Rattle.hg_core.specs.Versions.{unpublished}
use Rattle.hg_core.specs.Contents.{bucket_of, versions}
use Rattle.hg_core.specs.Clean.{IsCutAt}
use Rattle.hg_core.specs.State.{CoreState}

-- each record of the bucket is cut at the mark, and has no open write
abbrev pub IsSettled : CoreState → ℕ → Type 0
IsSettled s b = (r : Rid) → bucket_of s.buckets r ≡ b → (unpublished s.mark (versions s.buckets s.bucket r) ≡ None) × IsCutAt s.mark (versions s.buckets s.bucket r)
