-- What follows a view's own part: a bucket, the committer's part, or both.
use Rattle.std.specs.Prelude.{◌≡◌, ℕ, List, ◌∷◌}
use Rattle.hg_base.specs.declared.rid.Rid.{Rid}
use Rattle.hg_base.specs.declared.scope.Scope.{Scope}
use Rattle.hg_base.specs.declared.writer.Writer.{Writer}
use Rattle.hg_core.specs.declared.version.Version.{Version}
use Rattle.hg_core.specs.Logs.{begans}
use Rattle.hg_core.specs.Phases.{declared_in}
use Rattle.hg_core.specs.Contents.{look}
use Rattle.hg_rule.specs.declared.view.BucketPart.{BucketPart}
use Rattle.hg_rule.specs.declared.view.CommitPart.{CommitPart}
use Rattle.hg_rule.specs.declared.view.Part.{Part}
use Rattle.hg_rule.specs.declared.view.Part.TheVariants.{OfBucket, OfCommit}
use Rattle.hg_rule.specs.declared.view.View.{View}
use Rattle.hg_rule.specs.Views.{number, part_number, session, bucket_there, commit_there, first_in, after_first, others}
use Rattle.hg_rule.specs.Steps.{loaded_in}

-- what follows the part that was joined last
abbrev pub beyond : View → List Part
beyond v = after_first (others v)

-- what follows the two parts that were joined last
abbrev pub farther : View → List Part
farther v = after_first (beyond v)

-- the number of the bucket that was joined last
abbrev pub bucket_number : View → ℕ
bucket_number v = part_number (others v)

-- the part of the bucket that was joined last
abbrev pub bucket : View → BucketPart
bucket v = bucket_there (first_in (others v))

-- the part that was joined last is a bucket's
abbrev pub HasBucket : View → Type 0
HasBucket v = others v ≡ OfBucket (bucket_number v) (bucket v) ∷ beyond v

-- the committer's part, if it was joined last
abbrev pub commit : View → CommitPart
commit v = commit_there (first_in (others v))

-- the part that was joined last is the committer's
abbrev pub HasCommit : View → Type 0
HasCommit v = others v ≡ OfCommit (commit v) ∷ beyond v

-- the committer's part, if a bucket was joined after it
abbrev pub commit_behind : View → CommitPart
commit_behind v = commit_there (first_in (beyond v))

-- the two parts that were joined last are a bucket's, and before it the committer's
abbrev pub HasBoth : View → Type 0
HasBoth v = others v ≡ OfBucket (bucket_number v) (bucket v) ∷ OfCommit (commit_behind v) ∷ farther v

-- the versions of a record in the bucket that was joined last
abbrev pub held : View → Rid → List Version
held v rid = look rid (bucket v).content

-- the open transaction of the view's session
abbrev pub writer : View → Writer
writer v = record { session = number v; transaction = begans (session v).log }

-- the snapshot of a live session
abbrev pub snapshot : View → ℕ
snapshot v = loaded_in (session v).phase

-- the tables that the session's transaction may name
abbrev pub tables : View → Scope
tables v = declared_in (session v).phase
