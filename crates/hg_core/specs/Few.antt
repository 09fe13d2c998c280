-- How few versions are held where each record is clean.
use Rattle.std.specs.Prelude.{ℕ, ◌<◌, ◌≤◌, List, length, Bool, is_some, IsTrue}
use Rattle.hg_base.specs.declared.rid.Rid.{Rid}
use Rattle.hg_base.specs.History.{is_among}
use Rattle.hg_core.specs.Versions.{unpublished}
use Rattle.hg_core.specs.Contents.{versions}
use Rattle.hg_core.specs.Clean.{IsClean}
use Rattle.hg_core.specs.State.{CoreState}

-- whether a write of the record is open
abbrev pub has_open : CoreState → Rid → Bool
has_open s r = is_some (unpublished s.mark (versions s.buckets s.bucket r))

-- each record that has a version is one of these
abbrev pub AreAllHeld : CoreState → List Rid → Type 0
AreAllHeld s records = (r : Rid) → 0 < length (versions s.buckets s.bucket r) → IsTrue (is_among r records)

-- the record's versions are clean at the mark, for at most n snapshots
abbrev pub IsCleanFor : CoreState → ℕ → Rid → Type 0
IsCleanFor s n r = (snapshots : List ℕ) × (length snapshots ≤ n) × IsClean s.mark snapshots (versions s.buckets s.bucket r)
