-- What parts, sights and events say of the state.
use Rattle.std.specs.Prelude.{◌≡◌, ◌⊎◌, ℕ, ◌<◌, ◌≤◌, max, List, [], ◌∷◌, ◌++◌, length, ◌==◌, if◌then◌else◌, false, ⊤}
use Rattle.hg_base.specs.declared.scope.Scope.{Scope}
use Rattle.hg_base.specs.History.{History}
use Rattle.hg_base.specs.Freshness.{is_declared}
use Rattle.hg_core.specs.declared.register.Register.{Register}
use Rattle.hg_core.specs.declared.register.Register.TheVariants as registers
use Rattle.hg_core.specs.declared.phase.Phase.TheVariants as phases
use Rattle.hg_core.specs.declared.log.LogEntry.{LogEntry}
use Rattle.hg_core.specs.declared.log.LogEntry.TheVariants.{Began, Published}
use Rattle.hg_core.specs.Passes.{PassRecord}
use Rattle.hg_core.specs.Counters.{no_counters}
use Rattle.hg_core.specs.Contents.{has_stamped}
use Rattle.hg_core.specs.State.{CoreState}
use Rattle.hg_rule.specs.declared.groups.Groups.{Groups}
use Rattle.hg_rule.specs.declared.view.SessionPart.{SessionPart}
use Rattle.hg_rule.specs.declared.view.BucketPart.{BucketPart}
use Rattle.hg_rule.specs.declared.view.CommitPart.{CommitPart}
use Rattle.hg_rule.specs.declared.view.PassPart.{PassPart}
use Rattle.hg_rule.specs.declared.view.Part.{Part}
use Rattle.hg_rule.specs.declared.view.Part.TheVariants.{OfSession, OfBucket, OfCommit, OfPass, Away, Lent}
use Rattle.hg_rule.specs.declared.view.Sight.{Sight}
use Rattle.hg_rule.specs.declared.view.Sight.TheVariants.{Saw, Heard, Took, Did}
use Rattle.hg_rule.specs.declared.view.Event.{Event}
use Rattle.hg_rule.specs.declared.view.Event.TheVariants.{Sample}
use Rattle.hg_rule.specs.Keys.{Key, session_key, bucket_key, commit_key, pass_key, home_key, first_share}

-- ---- lists that grow

-- a list begins with another
abbrev pub StartsWith : {A : Type 0} → List A → List A → Type 0
StartsWith {A} xs start = (rest : List A) × (xs ≡ start ++ rest)

-- a list ends with another
abbrev pub EndsWith : {A : Type 0} → List A → List A → Type 0
EndsWith {A} xs end = (later : List A) × (xs ≡ later ++ end)

-- a value is an entry of a list
abbrev pub IsAmong : {A : Type 0} → A → List A → Type 0
IsAmong a [] = ⊥
IsAmong a (x ∷ xs) = (x ≡ a) ⊎ IsAmong a xs

-- ---- parts

-- a history in the form that a view's sights and the committer's part have
abbrev pub groups : History → Groups
groups h = record { list = h }

-- how many entries of a session's log were seen
abbrev pub heard : ℕ → List Sight → ℕ
heard j [] = 0
heard j (Saw h ∷ sights) = heard j sights
heard j (Heard k log ∷ sights) = if k == j then max (length log) (heard j sights) else heard j sights
heard j (Took n ∷ sights) = heard j sights
heard j (Did e ∷ sights) = heard j sights

-- the record of a pass
abbrev pub record_of : PassPart → PassRecord
record_of part = record { mark = part.mark; round = part.round; known = λ j. heard j part.seen; loaded = part.loaded; journal = part.journal }

-- the log is as it was when the part was handed over at mark n, or has one commit number more, which is over n
abbrev pub IsLeft : ℕ → List LogEntry → List LogEntry → Type 0
IsLeft n was log = (log ≡ was) ⊎ ((c : ℕ) × (n < c) × (log ≡ Published c ∷ was))

-- the state agrees with a part: of a part that was handed over, the log may have one commit number more
abbrev pub Shown : CoreState → Part → Type 0
Shown s (OfSession j part) = (s.phase j ≡ part.phase) × ((s.log j ≡ part.log) × (has_stamped j s.stamped_list ≡ part.stamped))
Shown s (OfBucket b part) = (s.bucket b ≡ part.content) × (s.counters b ≡ part.counters)
Shown s (OfCommit part) = (s.history ≡ part.history.list) × ((s.stamped_list ≡ part.stamped) × (s.taken ≡ part.taken))
Shown s (OfPass p part) = (s.pass p ≡ record_of part) × ((s.visits p ≡ part.visits) × (0 < part.share))
Shown s (Away j part n) = (s.phase j ≡ part.phase) × ((n ≤ s.mark) × IsLeft n part.log (s.log j))
Shown s (Lent j part) = (s.phase j ≡ part.phase) × ((s.log j ≡ part.log) × (has_stamped j s.stamped_list ≡ part.stamped))

-- a session's part on a new board: at rest, with an empty log
abbrev pub new_session : SessionPart
new_session = record { phase = phases.Idle; log = []; stamped = false }

-- a bucket's part on a new board: without records, and with all counters 0
abbrev pub new_bucket : BucketPart
new_bucket = record { content = []; counters = no_counters }

-- the committer's part on a new board: an empty history, and no group taken
abbrev pub new_commit : CommitPart
new_commit = record { history = groups []; stamped = []; taken = 0 }

-- a collector pass's part on a new board: a record of nothing, at mark 0
abbrev pub new_pass : PassPart
new_pass = record { mark = 0; round = 0; seen = []; loaded = []; visits = []; journal = []; share = first_share }

-- the part that a new board has for each key
abbrev pub new_part : Key → Part
new_part (session_key j) = OfSession j new_session
new_part (bucket_key b) = OfBucket b new_bucket
new_part commit_key = OfCommit new_commit
new_part (pass_key p) = OfPass p new_pass
new_part (home_key j) = Away j new_session 0

-- ---- events and sights

-- where the register is live, the log has the begin of its transaction, with declared tables exactly where the register shows them
abbrev pub HasBegun : Register → List LogEntry → Type 0
HasBegun registers.Idle log = ⊤
HasBegun (registers.Entering f) log = ⊤
HasBegun (registers.Live number declared moved) log = (scope : Scope) × (declared ≡ is_declared scope) × IsAmong (Began number scope) log

-- what a step says stays true of the state: a live register that was loaded has its begin in the session's log
abbrev pub Stands : CoreState → Event → Type 0
Stands s (Sample p j register) = HasBegun register (s.log j)
Stands s _ = ⊤

-- what a sight says is true of the state
abbrev pub Known : CoreState → Sight → Type 0
Known s (Saw h) = StartsWith s.history h.list
Known s (Heard j log) = EndsWith (s.log j) log
Known s (Took n) = n ≤ s.taken
Known s (Did e) = Stands s e

-- the whole log of session j was heard, unless it is empty
abbrev pub IsHeard : ℕ → List LogEntry → List Sight → Type 0
IsHeard j log sights = (log ≡ []) ⊎ IsAmong (Heard j log) sights
