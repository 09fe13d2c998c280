-- The events of a session: each changes its phase, its register and its log.
use Rattle.std.proofs.Common.{◌≡◌, ℕ, ◌<◌, ◌≤◌, List, [], ◌∷◌, ◌++◌, length, Option, None, Some, false, ◌⊎◌, inl, inr, refl, sym, ap, ◌∙◌, subst, arith}
use Rattle.std.specs.Prelude.{if◌then◌else◌, IfSome, IsSome, IsTrue}
use Rattle.hg_base.specs.declared.rid.Rid.{Rid}
use Rattle.hg_base.specs.declared.rid.TableId.{TableId}
use Rattle.hg_base.specs.declared.image.Image.{Image}
use Rattle.hg_base.specs.declared.scope.Scope.{Scope}
use Rattle.hg_base.specs.Freshness.{is_declared}
use Rattle.hg_base.specs.History.{History}
use Rattle.hg_core.specs.declared.loaded.Loaded.{Loaded}
use Rattle.hg_core.specs.declared.register.Register.{Register}
use Rattle.hg_core.specs.declared.register.Register.TheVariants as registers
use Rattle.hg_core.specs.declared.phase.Phase.{Phase}
use Rattle.hg_core.specs.declared.phase.Phase.TheVariants.{Idle, Declared, Probed, Entered, Fixed, Live}
use Rattle.hg_core.specs.declared.log.LogEntry.{LogEntry}
use Rattle.hg_core.specs.declared.log.LogEntry.TheVariants.{Began, Saw, Refused, Outside, Wrote, Undid, Published, Over}
use Rattle.hg_core.specs.Logs.{current, begans, has_begun, open_in, open_writes, begun_in, UpTo}
use Rattle.hg_core.specs.Words.{mask_of}
use Rattle.hg_core.specs.Phases.{IsSession, scope_in, declared_in, snapshot_in, IsEntering, MayHaveBegun}
use Rattle.hg_core.specs.Passes.{found}
use Rattle.hg_core.specs.State.{CoreState}
use Rattle.hg_core.specs.Events.{put, happens, May, Declare, Probe, Enter, Fix, GoLive, End}
use Rattle.hg_core.specs.Marks.{PhaseUpTo}
use Rattle.hg_core.specs.Registers.{Shows, IsMaskOf}
use Rattle.hg_core.specs.Bounds.{Bounds}
use Rattle.hg_core.specs.Judged.{Judged, FixedOver, LogsAnswer}
use Rattle.hg_core.specs.Contents.{versions}
use Rattle.hg_core.specs.OpenWrites.{OpenWritesStand, StampedIsNext}
use Rattle.hg_core.specs.Covered.{Reads, IsProtected, MayCommit}
use Rattle.hg_core.specs.Invariant.{IsSteady}
use Rattle.hg_core.proofs.Indices.{by_number, put_here, put_else, Only, only_put, only_same}
use Rattle.hg_core.proofs.LogSteps.{log_step}
use Rattle.hg_core.specs.Replies.{RepliesAnswer}
use Rattle.hg_core.proofs.Replies.{replies_entry}
use Rattle.hg_core.proofs.Covering.{covers_less}
use Rattle.hg_core.proofs.OpenWrites.{stand_alike, next_alike}
use Rattle.hg_core.proofs.Recalls.{reach_step}
use Rattle.hg_core.specs.Counters.{CountersBalance}
use Rattle.hg_core.proofs.Tallies.{counters_entry}

-- where no transaction is open, no write is
pub none_open : (h : History) (r : Rid) (log : List LogEntry) → Judged h log → current log ≡ None → open_in r log ≡ None
none_open h r [] j e = refl
none_open h r (Began at scope ∷ log) j e = refl
none_open h r (Over ∷ log) j e = refl
none_open h r (Published n ∷ log) j e = refl
none_open h r (Saw t low high b rows ∷ log) j e = none_open h r log j.1 e
none_open h r (Refused q answer ∷ log) j e = none_open h r log j.1 e
none_open h r (Outside t ∷ log) j e = none_open h r log j.1 e
none_open h r (Wrote q image ∷ log) j e = absurd (let z = j.0 in cc)
none_open h r (Undid q ∷ log) j e = absurd (let z = j.0 in cc)

-- a session turns to another phase
turn : (s : CoreState) (j : ℕ) (p : Phase) (register : ℕ → Register) (mask : ℕ → ℕ) (log : ℕ → List LogEntry) (added : List LogEntry) → IsSteady s → IsSession s.sessions j
    → PhaseUpTo s.mark p
    → Shows p (register j)
    → ((k : ℕ) → (k ≡ j → ⊥) → register k ≡ s.register k)
    → IfSome (scope_in p) (λ scope. IsMaskOf s.tables scope (mask j))
    → ((k : ℕ) → (k ≡ j → ⊥) → mask k ≡ s.mask k)
    → ((q : ℕ) → IfSome (found j (s.pass q).loaded) (λ loaded. Bounds (s.pass q).mark loaded p))
    → Only s.log log j (added ++ s.log j)
    → (IsEntering (s.phase j) → IsTrue (has_begun added) ⊎ IsEntering p)
    → RepliesAnswer s.buckets s.history log
    → ((table : TableId) (n : ℕ) → Reads table p n → IsProtected s.mark s.phase table n)
    → ((r : Rid) → open_in r (log j) ≡ None)
    → OpenWritesStand s.mark (begun_in log) (open_writes log) (versions s.buckets s.bucket)
    → StampedIsNext s.mark (open_writes log) (versions s.buckets s.bucket) s.stamped_list
    → LogsAnswer s.sessions s.quota s.history (put s.phase j p) log
    → CountersBalance s.sessions s.buckets s.passes log s.bucket s.counters s.visits
    → IsSteady (record s { phase = put s.phase j p; register = register; mask = mask; log = log })
turn s j p register mask log added h session up shows same masked alike bounds grown enters replies narrow none stand next answer counters = record {
  mark_is_length = record {
    is_length = h.mark_is_length.is_length;
    sessions = by_number j (λ k b. PhaseUpTo s.mark (if b then p else s.phase k)) up (λ k other. h.mark_is_length.sessions k);
    passes = h.mark_is_length.passes;
  };
  taken_at_most_mark = h.taken_at_most_mark;
  history = h.history;
  no_update_is_lost = h.no_update_is_lost;
  registers_agree = record {
    shows = by_number j (λ k b. Shows (if b then p else s.phase k) (register k)) shows (λ k other. rw (same k other) (h.registers_agree.shows k));
    masks = by_number j (λ k b. IfSome (scope_in (if b then p else s.phase k)) (λ scope. IsMaskOf s.tables scope (mask k))) masked (λ k other. rw (alike k other) (h.registers_agree.masks k));
    others = by_number j (λ k b. IsSession s.sessions k ⊎ ((if b then p else s.phase k) ≡ Idle)) (inl session) (λ k other. h.registers_agree.others k);
  };
  records_bound_sessions = λ q. by_number j (λ k b. IfSome (found k (s.pass q).loaded) (λ loaded. Bounds (s.pass q).mark loaded (if b then p else s.phase k))) (bounds q)
      (λ k other. h.records_bound_sessions q k);
  records_reach_logs = reach_step s.phase (put s.phase j p) s.log log s.pass j p added h.records_reach_logs (only_put s.phase j p) grown enters;
  covered = λ r. covers_less s.mark s.phase (put s.phase j p) s.history r (versions s.buckets s.bucket r) (λ n g. elim g [ inl e ↦ inl e | inr e ↦ still r.table n e.0 e.1 ]) (h.covered r);
  open_writes_may_commit = may_commit;
  contents_are_ordered = h.contents_are_ordered;
  contents_are_placed = h.contents_are_placed;
  counters_balance = counters;
  visits_stay = h.visits_stay;
  open_writes_stand = stand;
  stamped_is_next = next;
  logs_answer = answer;
  replies_answer = replies;
}
  where
    still : (table : TableId) (n k : ℕ) → Reads table (put s.phase j p k) n → IsProtected s.mark s.phase table n
    still table n = by_number j (λ k b. Reads table (if b then p else s.phase k) n → IsProtected s.mark s.phase table n) (narrow table n) (λ k other reads. inr (k, reads))

    may_commit : (k : ℕ) (r : Rid) (image : Image) → open_writes log k r ≡ Some image → MayCommit s.history r (put s.phase j p k)
    may_commit = by_number j (λ k b. (r : Rid) (image : Image) → open_in r (log k) ≡ Some image → MayCommit s.history r (if b then p else s.phase k))
        (λ r image e. absurd (let z = none r in cc))
        (λ k other r image e. h.open_writes_may_commit k r image (sym (ap (open_in r) (grown.there k other)) ∙ e))

-- its log stays
quiet : (s : CoreState) (j : ℕ) (p : Phase) → IsSteady s → snapshot_in (s.phase j) ≡ snapshot_in p → FixedOver p (s.log j) → MayHaveBegun s.quota p (begans (s.log j)) →
    LogsAnswer s.sessions s.quota s.history (put s.phase j p) s.log
quiet s j p h same over room = log_step s.sessions s.quota s.history s.phase (put s.phase j p) s.log s.log j p (s.log j) h.logs_answer (only_put s.phase j p) (only_same s.log j)
    (h.logs_answer.reads j ∙ same) room over (h.logs_answer.within j) (h.logs_answer.judged j) (h.logs_answer.undone j) (h.logs_answer.written j) (λ n. refl) (λ n e. e)

-- only the board's sessions are not at rest
pub session_at : (s : CoreState) (j : ℕ) → IsSteady s → (s.phase j ≡ Idle → ⊥) → IsSession s.sessions j
session_at s j h awake = elim (h.registers_agree.others j) [ inl a ↦ a | inr a ↦ absurd (awake a) ]

if_some_all : {X : Type 0} (o : Option X) (P : X → Type 0) → ((x : X) → P x) → IfSome o P
if_some_all None P f = tt
if_some_all (Some x) P f = f x

-- the mask word of a session that isn't at rest is that of its scope
scope_masked : (tables mask : ℕ) (p : Phase) → (p ≡ Idle → ⊥) → IfSome (scope_in p) (λ scope. IsMaskOf tables scope mask) → IsMaskOf tables (declared_in p) mask
scope_masked tables mask Idle awake m = absurd (awake refl)
scope_masked tables mask (Declared scope) awake m = m
scope_masked tables mask (Probed scope f) awake m = m
scope_masked tables mask (Entered scope f) awake m = m
scope_masked tables mask (Fixed scope f n) awake m = m
scope_masked tables mask (Live at scope) awake m = m

pub declare_kept : (s : CoreState) (j : ℕ) (scope : Scope) → IsSteady s → May s (Declare j scope) → IsSteady (happens s (Declare j scope))
declare_kept s j scope h may = turn s j (Declared scope) s.register (put s.mask j (mask_of scope)) s.log [] h may.session
    tt
    (subst (λ p. Shows p (s.register j)) may.rests (h.registers_agree.shows j))
    (λ k other. refl)
    (record { value = put_here s.mask j (mask_of scope); within = may.tables })
    (λ k other. put_else s.mask j k (mask_of scope) other)
    (λ q. if_some_all _ _ (λ loaded. tt))
    (only_same s.log j)
    (λ e. let z = subst IsEntering may.rests e in absurd z)
    h.replies_answer
    (λ table n reads. absurd reads) (λ r. none_open s.history r (s.log j) (h.logs_answer.judged j) (h.logs_answer.reads j ∙ ap snapshot_in may.rests))
    h.open_writes_stand h.stamped_is_next
    (quiet s j (Declared scope) h (ap snapshot_in may.rests) tt may.room)
    h.counters_balance

pub probe_kept : (s : CoreState) (j : ℕ) → IsSteady s → May s (Probe j) → IsSteady (happens s (Probe j))
probe_kept s j h (scope, may) = turn s j (Probed (declared_in (s.phase j)) s.mark) s.register s.mask s.log [] h (session_at s j h (λ e. cc))
    (omega arith)
    (subst (λ p. Shows p (s.register j)) may (h.registers_agree.shows j))
    (λ k other. refl)
    (scope_masked s.tables (s.mask j) (s.phase j) (λ e. cc) (h.registers_agree.masks j))
    (λ k other. refl)
    (λ q. if_some_all _ _ (λ loaded. tt))
    (only_same s.log j)
    (λ e. let z = subst IsEntering may e in absurd z)
    h.replies_answer
    (λ table n reads. absurd reads) (λ r. none_open s.history r (s.log j) (h.logs_answer.judged j) (h.logs_answer.reads j ∙ ap snapshot_in may))
    h.open_writes_stand h.stamped_is_next
    (quiet s j (Probed (declared_in (s.phase j)) s.mark) h (ap snapshot_in may) tt (subst (λ p. MayHaveBegun s.quota p (begans (s.log j))) may (h.logs_answer.room j)))
    h.counters_balance

pub enter_kept : (s : CoreState) (j f : ℕ) → IsSteady s → May s (Enter j f) → IsSteady (happens s (Enter j f))
enter_kept s j f h (scope, may) = turn s j (Entered (declared_in (s.phase j)) f) (put s.register j (registers.Entering f)) s.mask s.log [] h (session_at s j h (λ e. cc))
    (subst (PhaseUpTo s.mark) may (h.mark_is_length.sessions j))
    (put_here s.register j (registers.Entering f))
    (λ k other. put_else s.register j k (registers.Entering f) other)
    (scope_masked s.tables (s.mask j) (s.phase j) (λ e. cc) (h.registers_agree.masks j))
    (λ k other. refl)
    (λ q. if_some_all _ _ (λ loaded. tt))
    (only_same s.log j)
    (λ e. inr tt)
    h.replies_answer
    (λ table n reads. absurd reads) (λ r. none_open s.history r (s.log j) (h.logs_answer.judged j) (h.logs_answer.reads j ∙ ap snapshot_in may))
    h.open_writes_stand h.stamped_is_next
    (quiet s j (Entered (declared_in (s.phase j)) f) h (ap snapshot_in may) tt (subst (λ p. MayHaveBegun s.quota p (begans (s.log j))) may (h.logs_answer.room j)))
    h.counters_balance

pub fix_kept : (s : CoreState) (j f : ℕ) → IsSteady s → May s (Fix j f) → IsSteady (happens s (Fix j f))
fix_kept s j f h (scope, may) =
    let up : f ≤ s.mark = subst (PhaseUpTo s.mark) may (h.mark_is_length.sessions j) in
    turn s j (Fixed (declared_in (s.phase j)) f s.mark) s.register s.mask s.log [] h (session_at s j h (λ e. cc))
    (up, omega arith)
    (subst (λ p. Shows p (s.register j)) may (h.registers_agree.shows j), up)
    (λ k other. refl)
    (scope_masked s.tables (s.mask j) (s.phase j) (λ e. cc) (h.registers_agree.masks j))
    (λ k other. refl)
    (λ q. if_some_all _ _ (λ loaded. inl (h.mark_is_length.passes q)))
    (only_same s.log j)
    (λ e. inr tt)
    h.replies_answer
    (λ table n reads. inl reads) (λ r. none_open s.history r (s.log j) (h.logs_answer.judged j) (h.logs_answer.reads j ∙ ap snapshot_in may))
    h.open_writes_stand h.stamped_is_next
    (quiet s j (Fixed (declared_in (s.phase j)) f s.mark) h (ap snapshot_in may) (subst (λ n. UpTo n (s.log j)) (sym h.mark_is_length.is_length) (h.logs_answer.within j))
    (subst (λ p. MayHaveBegun s.quota p (begans (s.log j))) may (h.logs_answer.room j)))
    h.counters_balance

-- a fixed session's bound is a live one's
bound_live : (mark f m : ℕ) (scope : Scope) (o : Option Loaded) → IfSome o (λ loaded. Bounds mark loaded (Fixed scope f m)) → IfSome o (λ loaded. Bounds mark loaded (Live m scope))
bound_live mark f m scope None h = tt
bound_live mark f m scope (Some loaded) h = elim h [ inl a ↦ inl a | inr a ↦ inr (inl a) ]

pub go_live_kept : (s : CoreState) (j m : ℕ) (scope : Scope) → IsSteady s → May s (GoLive j m scope) → IsSteady (happens s (GoLive j m scope))
go_live_kept s j m scope h (f, at) =
    let up : (f ≤ s.mark) × (m ≤ s.mark) = subst (PhaseUpTo s.mark) at (h.mark_is_length.sessions j) in
    let over : UpTo m (s.log j) = subst (λ p. FixedOver p (s.log j)) at (h.logs_answer.fixed j) in
    let below : m ≤ length s.history = omega (arith, up.1, h.mark_is_length.is_length) in
    turn s j (Live m scope) (put s.register j (registers.Live m (is_declared scope) false)) s.mask (put s.log j (Began m scope ∷ s.log j)) (Began m scope ∷ []) h (session_at s j h (λ e. cc))
    up.1
    (false, record { value = put_here s.register j (registers.Live m (is_declared scope) false); declared = λ e. cc })
    (λ k other. put_else s.register j k (registers.Live m (is_declared scope) false) other)
    (subst (λ p. IfSome (scope_in p) (λ x. IsMaskOf s.tables x (s.mask j))) at (h.registers_agree.masks j))
    (λ k other. refl)
    (λ q. bound_live _ f m scope _ (subst (λ p. IfSome (found j (s.pass q).loaded) (λ loaded. Bounds (s.pass q).mark loaded p)) at (h.records_bound_sessions q j)))
    (only_put s.log j (Began m scope ∷ s.log j))
    (λ e. inl refl)
    (replies_entry s.buckets s.history s.log j (Began m scope) tt h.logs_answer.within tt h.replies_answer)
    (λ table n reads. inr (j, subst (λ q. Reads table q n) (sym at) reads.0))
    (λ r. ap (open_in r) (put_here s.log j (Began m scope ∷ s.log j)))
    (stand_alike s.mark (begun_in s.log) (begun_in (put s.log j (Began m scope ∷ s.log j))) (open_writes s.log) _ (versions s.buckets s.bucket) opened (λ k r i. number k r i) h.open_writes_stand)
    (next_alike s.mark (open_writes s.log) _ (versions s.buckets s.bucket) s.stamped_list opened h.stamped_is_next)
    (log_step s.sessions s.quota s.history s.phase (put s.phase j (Live m scope)) s.log (put s.log j (Began m scope ∷ s.log j)) j (Live m scope)
    (Began m scope ∷ s.log j) h.logs_answer (only_put s.phase j (Live m scope)) (only_put s.log j (Began m scope ∷ s.log j))
    refl
    (let room : begans (s.log j) < s.quota = subst (λ p. MayHaveBegun s.quota p (begans (s.log j))) at (h.logs_answer.room j) in omega arith)
    tt
    (below, h.logs_answer.within j)
    (record { within = below; over = over; alone = h.logs_answer.reads j ∙ ap snapshot_in at }, h.logs_answer.judged j)
    (h.logs_answer.undone j)
    (h.logs_answer.written j) (λ n. refl) (λ n e. e))
    (counters_entry s.sessions s.buckets s.passes s.log s.bucket s.counters s.visits j (Began m scope ∷ s.log j) (λ test. (refl, refl)) h.counters_balance)
  where
    none : (r : Rid) → open_in r (s.log j) ≡ None
    none r = none_open s.history r (s.log j) (h.logs_answer.judged j) (h.logs_answer.reads j ∙ ap snapshot_in at)

    opened : (k : ℕ) (r : Rid) → open_writes (put s.log j (Began m scope ∷ s.log j)) k r ≡ open_writes s.log k r
    opened = by_number j (λ k b. (r : Rid) → open_in r (if b then Began m scope ∷ s.log j else s.log k) ≡ open_in r (s.log k)) (λ r. sym (none r)) (λ k other r. refl)

    number : (k : ℕ) (r : Rid) (i : Image) → open_writes s.log k r ≡ Some i → begun_in (put s.log j (Began m scope ∷ s.log j)) k ≡ begun_in s.log k
    number = by_number j (λ k b. (r : Rid) (i : Image) → open_in r (s.log k) ≡ Some i → begans (if b then Began m scope ∷ s.log j else s.log k) ≡ begans (s.log k))
        (λ r i e. absurd (let z = none r in cc)) (λ k other r i e. refl)

-- a session that reads at a snapshot is live
pub no_snapshot : (p : Phase) → IsSome (snapshot_in p) → p ≡ Idle → ⊥
no_snapshot p some e = let z = subst (λ q. IsSome (snapshot_in q)) e some in cc

not_entering : (p : Phase) → IsSome (snapshot_in p) → IsEntering p → ⊥
not_entering (Entered scope f) some e = cc
not_entering (Fixed scope f m) some e = cc
not_entering Idle some e = e
not_entering (Declared scope) some e = e
not_entering (Probed scope f) some e = e
not_entering (Live at scope) some e = e

live_room : (quota n : ℕ) (p : Phase) → IsSome (snapshot_in p) → MayHaveBegun quota p n → n ≤ quota
live_room quota n Idle some e = e
live_room quota n (Declared scope) some e = omega arith
live_room quota n (Probed scope f) some e = omega arith
live_room quota n (Entered scope f) some e = omega arith
live_room quota n (Fixed scope f m) some e = omega arith
live_room quota n (Live at scope) some e = e

pub end_kept : (s : CoreState) (j : ℕ) → IsSteady s → May s (End j) → IsSteady (happens s (End j))
end_kept s j h may = turn s j Idle (put s.register j registers.Idle) s.mask (put s.log j (Over ∷ s.log j)) (Over ∷ []) h (session_at s j h (no_snapshot _ may.live))
    tt
    (put_here s.register j registers.Idle)
    (λ k other. put_else s.register j k registers.Idle other)
    tt
    (λ k other. refl)
    (λ q. if_some_all _ _ (λ loaded. tt))
    (only_put s.log j (Over ∷ s.log j))
    (λ e. absurd (not_entering _ may.live e))
    (replies_entry s.buckets s.history s.log j Over tt h.logs_answer.within tt h.replies_answer)
    (λ table n reads. absurd reads) (λ r. ap (open_in r) (put_here s.log j (Over ∷ s.log j)))
    (stand_alike s.mark (begun_in s.log) (begun_in (put s.log j (Over ∷ s.log j))) (open_writes s.log) _ (versions s.buckets s.bucket) opened (λ k r i e. number k) h.open_writes_stand)
    (next_alike s.mark (open_writes s.log) _ (versions s.buckets s.bucket) s.stamped_list opened h.stamped_is_next)
    (log_step s.sessions s.quota s.history s.phase (put s.phase j Idle) s.log (put s.log j (Over ∷ s.log j)) j Idle (Over ∷ s.log j) h.logs_answer (only_put s.phase j Idle)
    (only_put s.log j (Over ∷ s.log j))
    refl
    (live_room _ _ _ may.live (h.logs_answer.room j))
    tt
    (h.logs_answer.within j)
    (record { opened = subst IsSome (sym (h.logs_answer.reads j)) may.live; none = may.none }, h.logs_answer.judged j)
    (h.logs_answer.undone j)
    (h.logs_answer.written j) (λ n. refl) (λ n e. e))
    (counters_entry s.sessions s.buckets s.passes s.log s.bucket s.counters s.visits j (Over ∷ s.log j) (λ test. (refl, refl)) h.counters_balance)
  where
    opened : (k : ℕ) (r : Rid) → open_writes (put s.log j (Over ∷ s.log j)) k r ≡ open_writes s.log k r
    opened = by_number j (λ k b. (r : Rid) → open_in r (if b then Over ∷ s.log j else s.log k) ≡ open_in r (s.log k)) (λ r. sym (may.none r)) (λ k other r. refl)

    number : (k : ℕ) → begun_in (put s.log j (Over ∷ s.log j)) k ≡ begun_in s.log k
    number = by_number j (λ k b. begans (if b then Over ∷ s.log j else s.log k) ≡ begans (s.log k)) refl (λ k other. refl)
