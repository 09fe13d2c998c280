-- What a view says of its own.
use Rattle.std.specs.Prelude.{◌≡◌, ℕ, List, [], ◌∷◌, ◌++◌}
use Rattle.hg_rule.specs.declared.view.SessionPart.{SessionPart}
use Rattle.hg_rule.specs.declared.view.BucketPart.{BucketPart}
use Rattle.hg_rule.specs.declared.view.CommitPart.{CommitPart}
use Rattle.hg_rule.specs.declared.view.PassPart.{PassPart}
use Rattle.hg_rule.specs.declared.view.Part.{Part}
use Rattle.hg_rule.specs.declared.view.Part.TheVariants.{OfSession, OfBucket, OfCommit, OfPass, Away, Lent}
use Rattle.hg_rule.specs.declared.view.Sight.{Sight}
use Rattle.hg_rule.specs.declared.view.Event.{Event}
use Rattle.hg_rule.specs.declared.view.View.{View}
use Rattle.hg_rule.specs.Facts.{new_session, new_bucket, new_commit, new_pass}

-- the number of the first part of a list
abbrev pub part_number : List Part → ℕ
part_number [] = 0
part_number (OfSession j s ∷ parts) = j
part_number (OfBucket b c ∷ parts) = b
part_number (OfCommit h ∷ parts) = 0
part_number (OfPass p r ∷ parts) = p
part_number (Away j s n ∷ parts) = j
part_number (Lent j s ∷ parts) = j

-- a session's part, wherever it is, and a new session's where the part is another's
abbrev pub session_there : Part → SessionPart
session_there (OfSession j s) = s
session_there (OfBucket b c) = new_session
session_there (OfCommit h) = new_session
session_there (OfPass p r) = new_session
session_there (Away j s n) = s
session_there (Lent j s) = s

-- a bucket's part, and a new bucket's where the part is another's
abbrev pub bucket_there : Part → BucketPart
bucket_there (OfSession j s) = new_bucket
bucket_there (OfBucket b c) = c
bucket_there (OfCommit h) = new_bucket
bucket_there (OfPass p r) = new_bucket
bucket_there (Away j s n) = new_bucket
bucket_there (Lent j s) = new_bucket

-- the committer's part, and that of a new board where the part is another's
abbrev pub commit_there : Part → CommitPart
commit_there (OfSession j s) = new_commit
commit_there (OfBucket b c) = new_commit
commit_there (OfCommit h) = h
commit_there (OfPass p r) = new_commit
commit_there (Away j s n) = new_commit
commit_there (Lent j s) = new_commit

-- a collector pass's part, and a new pass's where the part is another's
abbrev pub pass_there : Part → PassPart
pass_there (OfSession j s) = new_pass
pass_there (OfBucket b c) = new_pass
pass_there (OfCommit h) = new_pass
pass_there (OfPass p r) = r
pass_there (Away j s n) = new_pass
pass_there (Lent j s) = new_pass

-- the mark at which a session's part was handed over, where the part is such a note
abbrev pub since_there : Part → ℕ
since_there (OfSession j s) = 0
since_there (OfBucket b c) = 0
since_there (OfCommit h) = 0
since_there (OfPass p r) = 0
since_there (Away j s n) = n
since_there (Lent j s) = 0

-- the first part of a list, and some part where the list is empty
abbrev pub first_in : List Part → Part
first_in [] = OfCommit new_commit
first_in (p ∷ parts) = p

-- the parts of a list after its first
abbrev pub after_first : List Part → List Part
after_first [] = []
after_first (p ∷ parts) = parts

-- the number of the view's own part, which is its first
abbrev pub number : View → ℕ
number v = part_number v.parts

-- the session's part that the view begins with
abbrev pub session : View → SessionPart
session v = session_there (first_in v.parts)

-- the pass's part that the view begins with
abbrev pub pass : View → PassPart
pass v = pass_there (first_in v.parts)

-- the parts that were joined to the view's own, the last joined first
abbrev pub others : View → List Part
others v = after_first v.parts

-- the view begins with its session's part
abbrev pub HasSession : View → Type 0
HasSession v = v.parts ≡ OfSession (number v) (session v) ∷ others v

-- the view begins with its pass's part
abbrev pub HasPass : View → Type 0
HasPass v = v.parts ≡ OfPass (number v) (pass v) ∷ others v

-- the mark at which the view's own part was handed over
abbrev pub since : View → ℕ
since v = since_there (first_in v.parts)

-- the view begins with the note that its session's part was handed over
abbrev pub HasAway : View → Type 0
HasAway v = v.parts ≡ Away (number v) (session v) (since v) ∷ others v

-- the view has its session's part and no other
abbrev pub HasOnlySession : View → Type 0
HasOnlySession v = v.parts ≡ OfSession (number v) (session v) ∷ []

-- a view of these parts, sights and events
abbrev pub seeing : List Part → List Sight → List Event → View
seeing parts sights events = record { parts = parts; sights = sights; events = events }

-- The view after a step: it has these parts now, keeps what it had seen and done, has seen this besides, and did this.
abbrev pub then_has : View → List Part → List Sight → Event → View
then_has v parts more event = seeing parts (v.sights ++ more) (v.events ++ event ∷ [])
