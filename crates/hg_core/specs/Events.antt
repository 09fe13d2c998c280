-- The events: each is one atomic action of one actor.
use Rattle.std.specs.Prelude.{◌≡◌, ℕ, suc, ◌<◌, ◌≤◌, List, [], ◌∷◌, ◌++◌, length, ◌+◌, ◌-◌, true, false, ◌==◌, if◌then◌else◌, Bool, Option, Some, None, IsSome, IsNone, IfSome, IsTrue, IsFalse}
use Rattle.hg_base.specs.declared.scope.Scope.{Scope}
use Rattle.hg_base.specs.declared.rid.Rid.{Rid}
use Rattle.hg_base.specs.declared.image.Image.{Image}
use Rattle.hg_base.specs.declared.report.Kind.{Kind}
use Rattle.hg_base.specs.Transcript.{has}
use Rattle.hg_base.specs.Lists.{Each}
use Rattle.hg_base.specs.History.{NoNumberTwice}
use Rattle.hg_base.specs.Freshness.{is_declared}
use Rattle.hg_core.specs.declared.loaded.Loaded.{Loaded}
use Rattle.hg_core.specs.declared.journal.PassEntry.{PassEntry}
use Rattle.hg_core.specs.declared.journal.PassEntry.TheVariants.{Marked, Sampled, Masked, Tried, Took}
use Rattle.hg_core.specs.declared.register.Register.{Register}
use Rattle.hg_core.specs.declared.register.Register.TheVariants as registers
use Rattle.hg_core.specs.declared.phase.Phase.TheVariants.{Idle, Declared, Probed, Entered, Fixed, Live}
use Rattle.hg_core.specs.declared.log.LogEntry.{LogEntry}
use Rattle.hg_core.specs.declared.log.LogEntry.TheVariants.{Began, Saw, Refused, Outside, Wrote, Undid, Over}
use Rattle.hg_core.specs.Words.{IsBelow, mask_of, number_of}
use Rattle.hg_core.specs.Logs.{current, snapshot_number, begans, wrotes, is_plain, open_in, begun_in, is_in, new_group, published_logs}
use Rattle.hg_core.specs.Phases.{IsSession, declared_in, snapshot_in}
use Rattle.hg_core.specs.Passes.{PassRecord, found, IsWhole}
use Rattle.hg_core.specs.Versions.{newest_at, installed, undone, stamped, IsFreeFor, IsOpenBy}
use Rattle.hg_core.specs.Contents.{bucket_of, versions, stored, is_stamped, has_stamped}
use Rattle.hg_base.specs.declared.line.Answer.{Answer}
use Rattle.hg_base.specs.declared.value.Value.{Value}
use Rattle.hg_base.specs.Replies.{AreRows}
use Rattle.hg_core.specs.declared.ask.Ask.{Ask}
use Rattle.hg_core.specs.declared.ask.Ask.TheVariants.{Read}
use Rattle.hg_core.specs.declared.ask.Ask.TheVariants as asks
use Rattle.hg_core.specs.Replies.{read_by, in_bucket, refusal}
use Rattle.hg_core.specs.Removal.{reclaimed}
use Rattle.hg_core.specs.OpenWrites.{writer_of}
use Rattle.hg_core.specs.declared.version.Version.{Version}
use Rattle.hg_core.specs.declared.visit.Counters.{Counters}
use Rattle.hg_core.specs.Counters.{added, removed_more}
use Rattle.hg_core.specs.Visits.{IsVisiting, removing}
use Rattle.hg_core.specs.State.{CoreState}

-- A session stores its mask word (Declare), loads the mark (Probe), shows that it enters at it (Enter), loads the mark again
-- (Fix), shows the second as its snapshot (GoLive), and goes to rest (End). A pass of a collector begins a record (Mark),
-- loads a register (Sample), and the mask word where that is live and declared (SampleMask), and moves a long snapshot
-- (Move), or comes too late to move it (Miss). A session stores a write (Install) or takes it back (Undo). A committer gives an open write the next number
-- (Stamp), and publishes the transactions of some sessions as one group (Publish). A pass takes away versions of a record
-- (Reclaim), and takes the oldest group out of the committer's list (Take). A session reads a range in a bucket, or tries a
-- write, or names a table outside (Look).
pub data Event : Type 0 where
  Declare : (j : ℕ) → (scope : Scope) → Event
  Probe : (j : ℕ) → Event
  Enter : (j f : ℕ) → Event
  Fix : (j f : ℕ) → Event
  GoLive : (j m : ℕ) → (scope : Scope) → Event
  End : (j : ℕ) → Event
  Mark : (p : ℕ) → (known : ℕ → ℕ) → Event
  Sample : (p j : ℕ) → Event
  SampleMask : (p j : ℕ) → Event
  Move : (p j : ℕ) → Event
  Miss : (p j number : ℕ) → Event
  Install : (j : ℕ) → (r : Rid) → (image : Image) → Event
  Undo : (j : ℕ) → (r : Rid) → Event
  Stamp : (j : ℕ) → (r : Rid) → Event
  Publish : (sessions : List ℕ) → Event
  Reclaim : (p : ℕ) → (kind : Kind) → (r : Rid) → Event
  Take : (p : ℕ) → Event
  Look : (j : ℕ) → (ask : Ask) → (b : ℕ) → (rows : List (ℕ × List Value)) → Event

-- f with another value at j
abbrev pub put : {A : Type 0} → (ℕ → A) → ℕ → A → ℕ → A
put f j value = λ k. if k == j then value else f k

-- a live register, moved
abbrev pub moved : Register → Register
moved registers.Idle = registers.Idle
moved (registers.Entering f) = registers.Entering f
moved (registers.Live number declared was_moved) = registers.Live number declared true

-- what was loaded, with session j's changed
abbrev pub changed_in : (Loaded → Loaded) → ℕ → List (ℕ × Loaded) → List (ℕ × Loaded)
changed_in change j [] = []
changed_in change j (e ∷ loaded) = if j == e.0 then (e.0, change e.1) ∷ loaded else e ∷ changed_in change j loaded

-- with session j's register moved
abbrev pub moved_in : ℕ → List (ℕ × Loaded) → List (ℕ × Loaded)
moved_in j loaded = changed_in (λ one. record one { register = moved one.register }) j loaded

-- with the mask word of session j
abbrev pub masked_in : ℕ → ℕ → List (ℕ × Loaded) → List (ℕ × Loaded)
masked_in j mask loaded = changed_in (λ one. record one { mask = Some mask }) j loaded

-- a record whose journal has an entry more
abbrev pub noting : PassEntry → PassRecord → PassRecord
noting entry pass = record pass { journal = pass.journal ++ entry ∷ [] }

-- the record of a pass that loads the mark, which begins its next round
abbrev pub begun_record : ℕ → (ℕ → ℕ) → PassRecord → PassRecord
begun_record mark known pass = record { mark = mark; round = suc pass.round; known = known; loaded = []; journal = pass.journal ++ Marked mark ∷ [] }

-- a record with a register more, of which no mask is loaded yet
abbrev pub sampled : PassRecord → ℕ → Register → PassRecord
sampled pass j register = record pass { loaded = (j, record { register = register; mask = None }) ∷ pass.loaded; journal = pass.journal ++ Sampled j register ∷ [] }

-- a record with the mask word of session j
abbrev pub masked : PassRecord → ℕ → ℕ → PassRecord
masked pass j mask = record pass { loaded = masked_in j mask pass.loaded; journal = pass.journal ++ Masked j mask ∷ [] }

-- a record whose entry of session j was moved at this number
abbrev pub moved_at : PassRecord → ℕ → ℕ → PassRecord
moved_at pass j number = record pass { loaded = moved_in j pass.loaded; journal = pass.journal ++ Tried j number true ∷ [] }

-- a log with a refusal, where there is one
abbrev pub with_refusal : Rid → Option Answer → List LogEntry → List LogEntry
with_refusal r None log = log
with_refusal r (Some answer) log = Refused r answer ∷ log

-- the log of session j after a look, in bucket b and with the rows that it finds there where it is a read
abbrev pub looked : CoreState → ℕ → Ask → ℕ → List (ℕ × List Value) → List LogEntry
looked s j (Read table low high) b rows = Saw table low high b rows ∷ s.log j
looked s j (asks.Write r) b rows = with_refusal r (refusal s.mark (writer_of (begun_in s.log) j) (snapshot_number (current (s.log j))) (versions s.buckets s.bucket r)) (s.log j)
looked s j (asks.Outside table) b rows = Outside table ∷ s.log j

-- the counters after n more versions were made in bucket b
abbrev pub with_made : (ℕ → Counters) → ℕ → ℕ → ℕ → Counters
with_made counters b n = put counters b (record (counters b) { made = (counters b).made + n })

-- the counters after one version was taken back in bucket b
abbrev pub with_undone : (ℕ → Counters) → ℕ → ℕ → Counters
with_undone counters b = put counters b (record (counters b) { undone = suc (counters b).undone })

-- the counters after n more versions were removed from bucket b by a kind of collector
abbrev pub with_removed : (ℕ → Counters) → ℕ → Kind → ℕ → ℕ → Counters
with_removed counters b kind n = put counters b (record (counters b) { removed = removed_more kind n (counters b).removed })

-- the state after a pass left these of the versions of a record
abbrev pub shortened : CoreState → ℕ → Kind → Rid → List Version → CoreState
shortened s p kind r vs =
    record s {
      bucket = stored s.buckets s.bucket r vs;
      counters = with_removed s.counters (bucket_of s.buckets r) kind (length (versions s.buckets s.bucket r) - length vs);
      visits = put s.visits p (removing kind (length (versions s.buckets s.bucket r) - length vs) (s.visits p));
    }

-- the state after an event
abbrev pub happens : CoreState → Event → CoreState
happens s (Declare j scope) = record s { phase = put s.phase j (Declared scope); mask = put s.mask j (mask_of scope) }
happens s (Probe j) = record s { phase = put s.phase j (Probed (declared_in (s.phase j)) s.mark) }
happens s (Enter j f) = record s { phase = put s.phase j (Entered (declared_in (s.phase j)) f); register = put s.register j (registers.Entering f) }
happens s (Fix j f) = record s { phase = put s.phase j (Fixed (declared_in (s.phase j)) f s.mark) }
happens s (GoLive j m scope) = record s { phase = put s.phase j (Live m scope); register = put s.register j (registers.Live m (is_declared scope) false); log = put s.log j (Began m scope ∷ s.log j) }
happens s (End j) = record s { phase = put s.phase j Idle; register = put s.register j registers.Idle; log = put s.log j (Over ∷ s.log j) }
happens s (Mark p known) = record s { pass = put s.pass p (begun_record s.mark known (s.pass p)) }
happens s (Sample p j) = record s { pass = put s.pass p (sampled (s.pass p) j (s.register j)) }
happens s (SampleMask p j) = record s { pass = put s.pass p (masked (s.pass p) j (s.mask j)) }
happens s (Move p j) = record s { register = put s.register j (moved (s.register j)); pass = put s.pass p (moved_at (s.pass p) j (number_of (s.register j))) }
happens s (Miss p j number) = record s { pass = put s.pass p (noting (Tried j number false) (s.pass p)) }
happens s (Install j r image) =
    record s {
      bucket = stored s.buckets s.bucket r (installed (writer_of (begun_in s.log) j) image (versions s.buckets s.bucket r));
      counters = with_made s.counters (bucket_of s.buckets r) (added (versions s.buckets s.bucket r));
      log = put s.log j (Wrote r image ∷ s.log j);
    }
happens s (Undo j r) = record s {
  bucket = stored s.buckets s.bucket r (undone (versions s.buckets s.bucket r));
  counters = with_undone s.counters (bucket_of s.buckets r);
  log = put s.log j (Undid r ∷ s.log j);
}
happens s (Stamp j r) = record s { bucket = stored s.buckets s.bucket r (stamped (suc s.mark) (writer_of (begun_in s.log) j) (versions s.buckets s.bucket r)); stamped_list = (j, r) ∷ s.stamped_list }
happens s (Publish sessions) = record s { mark = suc s.mark; history = s.history ++ new_group s.log sessions ∷ []; stamped_list = []; log = published_logs s.log sessions (suc s.mark) }
happens s (Reclaim p kind r) = shortened s p kind r (reclaimed kind r.table (s.pass p) (versions s.buckets s.bucket r))
happens s (Take p) = record s { taken = suc s.taken; pass = put s.pass p (noting (Took (suc s.taken)) (s.pass p)) }
happens s (Look j ask b rows) = record s { log = put s.log j (looked s j ask b rows) }

-- a session may begin, with tables that are there: it is at rest, and has begun fewer transactions than it may
pub record MayDeclare (s : CoreState) (j : ℕ) (scope : Scope) : Type 0 where
  pub session : IsSession s.sessions j
  pub rests : s.phase j ≡ Idle
  pub room : begans (s.log j) < s.quota
  pub tables : IsBelow s.tables scope

-- a pass that is there may begin a record, of logs that are at least as long as it says
pub record MayMark (s : CoreState) (p : ℕ) (known : ℕ → ℕ) : Type 0 where
  pub there : p < s.passes
  pub known_of : (j : ℕ) → known j ≤ length (s.log j)

-- a register is loaded once for a record, by a pass that is there
pub record MaySample (s : CoreState) (p j : ℕ) : Type 0 where
  pub there : p < s.passes
  pub session : IsSession s.sessions j
  pub fresh : IsNone (found j (s.pass p).loaded)

-- a mask is loaded once, after its register, where that is live and declared
abbrev pub MaySampleMask : CoreState → ℕ → ℕ → ℕ → Bool → Type 0
MaySampleMask s p j number moved = found j (s.pass p).loaded ≡ Some (record { register = registers.Live number true moved; mask = None })

-- a pass may move a declared snapshot that it loaded unmoved, and that the register still shows
pub record MayMove (s : CoreState) (p j : ℕ) (number : ℕ) (mask : Option ℕ) : Type 0 where
  pub shown : s.register j ≡ registers.Live number true false
  pub loaded : found j (s.pass p).loaded ≡ Some (record { register = registers.Live number true false; mask = mask })

-- a pass comes too late to move a declared snapshot that it loaded unmoved: the register shows it no more
pub record MayMiss (s : CoreState) (p j : ℕ) (number : ℕ) (mask : Option ℕ) : Type 0 where
  pub gone : s.register j ≡ registers.Live number true false → ⊥
  pub loaded : found j (s.pass p).loaded ≡ Some (record { register = registers.Live number true false; mask = mask })

-- a session may go to rest: it reads at a snapshot, and has no open write
pub record MayEnd (s : CoreState) (j : ℕ) : Type 0 where
  pub live : IsSome (snapshot_in (s.phase j))
  pub none : (r : Rid) → open_in r (s.log j) ≡ None

-- A live session that has written less often than it may, may write a record of its tables: nothing of its transaction was undone, stamped or published, nobody
-- else has the record open, and its newest number is at or below the snapshot.
pub record MayInstall (s : CoreState) (j : ℕ) (r : Rid) (at : ℕ) (scope : Scope) : Type 0 where
  pub live : s.phase j ≡ Live at scope
  pub table : IsTrue (has scope r.table)
  pub there : r.table.0 < s.tables
  pub plain : IsTrue (is_plain (s.log j))
  pub unstamped : IsFalse (has_stamped j s.stamped_list)
  pub room : wrotes (s.log j) < s.quota
  pub free : IsFreeFor s.mark (writer_of (begun_in s.log) j) (versions s.buckets s.bucket r)
  pub newest : IfSome (newest_at s.mark (versions s.buckets s.bucket r)) (λ pair. pair.0 ≤ at)

-- an open write may go where none of its transaction is stamped
pub record MayUndo (s : CoreState) (j : ℕ) (r : Rid) : Type 0 where
  pub mine : IsOpenBy (writer_of (begun_in s.log) j) (versions s.buckets s.bucket r)
  pub unstamped : IsFalse (has_stamped j s.stamped_list)

-- an open write may get the next number where none of its transaction was undone
pub record MayStamp (s : CoreState) (j : ℕ) (r : Rid) : Type 0 where
  pub mine : IsOpenBy (writer_of (begun_in s.log) j) (versions s.buckets s.bucket r)
  pub plain : IsTrue (is_plain (s.log j))

-- Some sessions may publish: none twice, and nothing of their open transactions was undone or published. The list of
-- stamped writes has a write of each of them and of nobody else, and each of their open writes.
pub record MayPublish (log : ℕ → List LogEntry) (list : List (ℕ × Rid)) (sessions : List ℕ) : Type 0 where
  pub some : 0 < length sessions
  pub distinct : NoNumberTwice sessions
  pub opened : Each (λ j. IsSome (current (log j))) sessions
  pub plain : Each (λ j. IsTrue (is_plain (log j))) sessions
  pub stamped : (j : ℕ) → has_stamped j list ≡ is_in sessions j
  pub whole : (j : ℕ) (r : Rid) → IsTrue (is_in sessions j) → IsSome (open_in r (log j)) → IsTrue (is_stamped j r list)

-- what a session asks: of its tables, and the rows are those of the bucket; or of no table of its scope
abbrev pub Asks : CoreState → ℕ → ℕ → Scope → Ask → ℕ → List (ℕ × List Value) → Type 0
Asks s j at scope (Read table low high) b rows = IsTrue (has scope table) ×
    AreRows (in_bucket s.buckets b table (λ r. read_by (writer_of (begun_in s.log) j) at (versions s.buckets s.bucket r))) low high rows
Asks s j at scope (asks.Write r) b rows = IsTrue (has scope r.table)
Asks s j at scope (asks.Outside table) b rows = IsFalse (has scope table)

-- a live session may look where nothing of its transaction was undone, stamped or published
pub record MayLook (s : CoreState) (j : ℕ) (ask : Ask) (b : ℕ) (rows : List (ℕ × List Value)) (at : ℕ) (scope : Scope) : Type 0 where
  pub live : s.phase j ≡ Live at scope
  pub plain : IsTrue (is_plain (s.log j))
  pub unstamped : IsFalse (has_stamped j s.stamped_list)
  pub asks : Asks s j at scope ask b rows

-- a pass with a whole record may take away versions in the bucket that it visits
pub record MayReclaim (s : CoreState) (p : ℕ) (r : Rid) : Type 0 where
  pub whole : IsWhole s.sessions (s.pass p)
  pub here : IsVisiting (bucket_of s.buckets r) (s.visits p)

-- a pass that is there may take a group where one is left
pub record MayTake (s : CoreState) (p : ℕ) : Type 0 where
  pub there : p < s.passes
  pub left : s.taken < s.mark

-- when an event may happen
abbrev pub May : CoreState → Event → Type 0
May s (Declare j scope) = MayDeclare s j scope
May s (Probe j) = (scope : Scope) × (s.phase j ≡ Declared scope)
May s (Enter j f) = (scope : Scope) × (s.phase j ≡ Probed scope f)
May s (Fix j f) = (scope : Scope) × (s.phase j ≡ Entered scope f)
May s (GoLive j m scope) = (f : ℕ) × (s.phase j ≡ Fixed scope f m)
May s (End j) = MayEnd s j
May s (Mark p known) = MayMark s p known
May s (Sample p j) = MaySample s p j
May s (SampleMask p j) = (number : ℕ) × (moved : Bool) × MaySampleMask s p j number moved
May s (Move p j) = (number : ℕ) × (mask : Option ℕ) × MayMove s p j number mask
May s (Miss p j number) = (mask : Option ℕ) × MayMiss s p j number mask
May s (Install j r image) = (at : ℕ) × (scope : Scope) × MayInstall s j r at scope
May s (Undo j r) = MayUndo s j r
May s (Stamp j r) = MayStamp s j r
May s (Publish sessions) = MayPublish s.log s.stamped_list sessions
May s (Reclaim p kind r) = MayReclaim s p r
May s (Take p) = MayTake s p
May s (Look j ask b rows) = (at : ℕ) × (scope : Scope) × MayLook s j ask b rows at scope
