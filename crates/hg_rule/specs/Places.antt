-- What a view becomes when a bucket or the committer's part is joined to it, and when it leaves.
use Rattle.std.specs.Prelude.{◌≡◌, ℕ, List, [], ◌∷◌, ◌++◌, None, ⊤}
use Rattle.hg_core.specs.Contents.{Content}
use Rattle.hg_core.specs.Counters.{none_removed}
use Rattle.hg_core.specs.Visits.{IsVisiting, giving}
use Rattle.hg_rule.specs.declared.view.PassPart.{PassPart}
use Rattle.hg_rule.specs.declared.view.Part.{Part}
use Rattle.hg_rule.specs.declared.view.Part.TheVariants.{OfSession, OfBucket, OfCommit, OfPass, Away, Lent}
use Rattle.hg_rule.specs.declared.view.Sight.TheVariants.{Saw, Took}
use Rattle.hg_rule.specs.declared.view.View.{View}
use Rattle.hg_rule.specs.Views.{part_number, first_in, others, seeing}
use Rattle.hg_rule.specs.Moves.{put_in}
use Rattle.hg_rule.specs.Holding.{beyond, bucket_number, bucket, commit}

-- the view has a part of its own
abbrev pub HasFirst : View → Type 0
HasFirst v = v.parts ≡ first_in v.parts ∷ others v

-- ---- a bucket

-- a collector's pass begins a visit of bucket b, which keeps the mark of its record and the number of its round
abbrev pub arriving : ℕ → PassPart → PassPart
arriving b part = record part { visits = record { bucket = b; mark = part.mark; round = part.round; removed = none_removed; given = None } ∷ part.visits }

-- a part after bucket b was joined to it: only a pass's begins a visit
abbrev pub arrive : ℕ → Part → Part
arrive b (OfSession j part) = OfSession j part
arrive b (OfBucket c part) = OfBucket c part
arrive b (OfCommit part) = OfCommit part
arrive b (OfPass p part) = OfPass p (arriving b part)
arrive b (Away j part n) = Away j part n
arrive b (Lent j part) = Lent j part

-- parts after bucket b was joined to the first of them
abbrev pub arrive_first : ℕ → List Part → List Part
arrive_first b [] = []
arrive_first b (p ∷ parts) = arrive b p ∷ parts

-- v with the part of the bucket's seat w after its own
abbrev pub with_bucket : View → View → View
with_bucket v w = seeing (put_in (arrive_first (part_number w.parts) v.parts) w.parts) (v.sights ++ w.sights) v.events

-- its visit is over, with what it gives back
abbrev pub departing : Content → PassPart → PassPart
departing content part = record part { visits = giving (λ b. content) part.visits }

-- a part after a bucket with this content left it: only a pass's visit is over
abbrev pub depart : Content → Part → Part
depart content (OfSession j part) = OfSession j part
depart content (OfBucket c part) = OfBucket c part
depart content (OfCommit part) = OfCommit part
depart content (OfPass p part) = OfPass p (departing content part)
depart content (Away j part n) = Away j part n
depart content (Lent j part) = Lent j part

-- v without the bucket that was joined last
abbrev pub without_bucket : View → View
without_bucket v = seeing (depart (bucket v).content (first_in v.parts) ∷ beyond v) v.sights v.events

-- the newest visit of a collector's pass is of that bucket, and isn't over
abbrev pub IsThere : ℕ → Part → Type 0
IsThere b (OfSession j part) = ⊤
IsThere b (OfBucket c part) = ⊤
IsThere b (OfCommit part) = ⊤
IsThere b (OfPass p part) = IsVisiting b part.visits
IsThere b (Away j part n) = ⊤
IsThere b (Lent j part) = ⊤

-- a view whose last joined part is bucket b
abbrev pub HoldsBucket : ℕ → View → Type 0
HoldsBucket b v = HasFirst v × ((others v ≡ OfBucket b (bucket v) ∷ beyond v) × IsThere b (first_in v.parts))

-- the bucket's part alone, which has seen what the view had seen
abbrev pub bucket_alone : View → View
bucket_alone v = seeing (OfBucket (bucket_number v) (bucket v) ∷ []) v.sights []

-- ---- the committer's part

-- v without it, which keeps the history and the count taken as seen
abbrev pub without_commit : View → View
without_commit v = seeing (first_in v.parts ∷ beyond v) (v.sights ++ Saw (commit v).history ∷ Took (commit v).taken ∷ []) v.events

-- the committer's part alone, which has seen what the view had seen
abbrev pub commit_alone : View → View
commit_alone v = seeing (OfCommit (commit v) ∷ []) v.sights []

-- a view whose last joined part is the committer's
abbrev pub HoldsCommit : View → Type 0
HoldsCommit v = HasFirst v × (others v ≡ OfCommit (commit v) ∷ beyond v)
