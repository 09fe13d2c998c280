-- A visit is one taking of a bucket by a collector's pass, up to giving it back.
use Rattle.std.specs.Prelude.{◌≡◌, ◌⊎◌, ℕ, ◌<◌, ◌≤◌, List, [], ◌∷◌, Some, IsNone, IfSome}
use Rattle.hg_base.specs.declared.rid.Rid.{Rid}
use Rattle.hg_base.specs.declared.report.Kind.{Kind}
use Rattle.hg_base.specs.Lists.{Each}
use Rattle.hg_core.specs.declared.version.Version.{Version}
use Rattle.hg_core.specs.declared.visit.Visit.{Visit}
use Rattle.hg_core.specs.Contents.{Content, bucket_of, look}
use Rattle.hg_core.specs.Counters.{removed_more}
use Rattle.hg_core.specs.Clean.{IsClean, IsCutAt}

-- ---- the visits of a pass, newest first

-- the newest visit is of that bucket, and isn't over
abbrev pub IsVisiting : ℕ → List Visit → Type 0
IsVisiting b [] = ⊥
IsVisiting b (v ∷ visits) = (v.bucket ≡ b) × IsNone v.given

-- the newest visit removed so many more
abbrev pub removing : Kind → ℕ → List Visit → List Visit
removing kind n [] = []
removing kind n (v ∷ visits) = record v { removed = removed_more kind n v.removed } ∷ visits

-- the newest visit is over
abbrev pub giving : (ℕ → Content) → List Visit → List Visit
giving bucket [] = []
giving bucket (v ∷ visits) = record v { given = Some (bucket v.bucket) } ∷ visits

-- ---- what stays of them

-- What was cut in what a visit gave back, at a bound at or below the mark that it keeps, is cut there still. What was clean
-- there, for a horizon at or below that mark, is clean still.
pub record StaysAsGiven (buckets b mark : ℕ) (versions : Rid → List Version) (given : Content) : Type 0 where
  pub cut : (r : Rid) (bound : ℕ) → bucket_of buckets r ≡ b → bound ≤ mark → IsCutAt bound (look r given) → IsCutAt bound (versions r)
  pub clean : (r : Rid) (horizon : ℕ) (snapshots : List ℕ) → bucket_of buckets r ≡ b → horizon ≤ mark → IsClean horizon snapshots (look r given) → IsClean horizon snapshots (versions r)

-- a visit of a bucket that is there, with a mark that was loaded
pub record IsVisit (buckets mark : ℕ) (versions : Rid → List Version) (visit : Visit) : Type 0 where
  pub bucket : visit.bucket < buckets
  pub kept : visit.mark ≤ mark
  pub stays : IfSome visit.given (StaysAsGiven buckets visit.bucket visit.mark versions)

-- no other than the passes that there are visits
pub record VisitsStay (passes buckets mark : ℕ) (versions : Rid → List Version) (visits : ℕ → List Visit) : Type 0 where
  pub each : (p : ℕ) → Each (IsVisit buckets mark versions) (visits p)
  pub others : (p : ℕ) → (p < passes) ⊎ (visits p ≡ [])
