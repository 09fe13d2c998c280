-- What a session, a bucket and the committer's seat are between two commits.
use Rattle.std.specs.Prelude.{◌≡◌, ℕ, ◌≤◌, false, [], ◌∷◌}
use Rattle.hg_base.specs.declared.rid.Rid.{Rid}
use Rattle.hg_base.specs.declared.scope.Scope.TheVariants.{All}
use Rattle.hg_core.specs.declared.log.LogEntry.TheVariants.{Began}
use Rattle.hg_core.specs.declared.phase.Phase.TheVariants.{Idle, Live}
use Rattle.hg_core.specs.Contents.{Content, look}
use Rattle.hg_rule.specs.declared.passes.SessionPass.{SessionPass}
use Rattle.hg_rule.specs.declared.passes.BucketSeat.{BucketSeat}
use Rattle.hg_rule.specs.declared.passes.CommitSeat.{CommitSeat}
use Rattle.hg_rule.specs.declared.view.SessionPart.{SessionPart}
use Rattle.hg_rule.specs.declared.view.BucketPart.{BucketPart}
use Rattle.hg_rule.specs.declared.view.CommitPart.{CommitPart}
use Rattle.hg_rule.specs.declared.view.Sizes.{Sizes}
use Rattle.hg_rule.specs.Views.{session, bucket_there, commit_there, first_in, HasOnlySession}
use Rattle.hg_rule.specs.Seats.{BoardId, session_view, bucket_view, commit_view, IsSessionOf}

-- the part of a pass's session
abbrev pub own_session : SessionPass → SessionPart
own_session p = session (session_view p)

-- the part of a bucket's seat
abbrev pub own_bucket : BucketSeat → BucketPart
own_bucket p = bucket_there (first_in (bucket_view p).parts)

-- the part of the committer's seat
abbrev pub own_commit : CommitSeat → CommitPart
own_commit p = commit_there (first_in (commit_view p).parts)

-- a session that has nothing else
abbrev pub IsAlone : BoardId → Sizes → SessionPass → Type 0
IsAlone t z p = IsSessionOf t z p × HasOnlySession (session_view p)

-- a session that is at rest, of whose writes none has the next number
abbrev pub Rests : SessionPass → Type 0
Rests p = ((own_session p).phase ≡ Idle) × ((own_session p).stamped ≡ false)

-- no record with this key or a greater one has a version
abbrev pub IsFreeFrom : ℕ → Content → Type 0
IsFreeFrom key content = (rid : Rid) → key ≤ rid.key → look rid content ≡ []

-- a session whose first transaction has begun, at this snapshot, on all tables, and has done nothing
abbrev pub HasBegun : ℕ → SessionPart → Type 0
HasBegun at s = (s.phase ≡ Live at All) × (s.log ≡ Began at All ∷ []) × (s.stamped ≡ false)
