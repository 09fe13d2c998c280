-- What a read finds in a bucket, and what a removal leaves there.
use Rattle.std.specs.Prelude.{ℕ, List, Option, option_map}
use Rattle.hg_base.specs.declared.rid.Rid.{Rid}
use Rattle.hg_base.specs.declared.image.Image.{Image}
use Rattle.hg_core.specs.Versions.{newest_at}
use Rattle.hg_core.specs.Contents.{versions}
use Rattle.hg_core.specs.Covered.{image_of}
use Rattle.hg_base.specs.declared.report.Kind.{Kind}
use Rattle.hg_core.specs.declared.version.Version.{Version}
use Rattle.hg_core.specs.State.{CoreState}
use Rattle.hg_core.specs.Events.{Reclaim, happens}

-- the image of the newest version of r that is numbered at or below n
abbrev pub held : CoreState → Rid → ℕ → Image
held s r n = image_of (newest_at n (versions s.buckets s.bucket r))

-- the versions of r that a pass leaves by its kind
abbrev pub left_by : CoreState → ℕ → Kind → Rid → List Version
left_by s p kind r = versions s.buckets (happens s (Reclaim p kind r)).bucket r

-- the number of the newest version of r that is at or below the mark
abbrev pub newest_held : CoreState → Rid → Option ℕ
newest_held s r = option_map (λ pair. pair.0) (newest_at s.mark (versions s.buckets s.bucket r))
