-- Nobody but the board's sessions has a log.
use Rattle.std.proofs.Common.{◌≡◌, ℕ, Bool, true, false, List, [], ◌∷◌, inl, inr, refl, sym, ◌∙◌, subst}
use Rattle.std.specs.Prelude.{◌⊎◌, Some, None, if◌then◌else◌, IsSome}
use Rattle.hg_core.specs.declared.log.LogEntry.{LogEntry}
use Rattle.hg_core.specs.declared.log.LogEntry.TheVariants.{Published}
use Rattle.hg_core.specs.Logs.{current, begun_in, open_in, is_in, published_logs}
use Rattle.hg_core.specs.Phases.{IsSession}
use Rattle.hg_core.specs.Commits.{AloneHaveLogs}
use Rattle.hg_core.specs.State.{CoreState, opened}
use Rattle.hg_core.specs.Events.{Event, Declare, Probe, Enter, Fix, GoLive, End, Mark, Sample, SampleMask, Move, Miss, Install, Undo, Stamp, Publish, Reclaim, Take, Look, put, happens, May}
use Rattle.hg_core.specs.Steps.{Step, Act, Arrive, Leave, Split, Unite, step, Can, Run, run, Always}
use Rattle.hg_core.specs.Contents.{versions}
use Rattle.hg_core.specs.OpenWrites.{writer_of}
use Rattle.hg_core.specs.Invariant.{IsSteady}
use Rattle.hg_core.proofs.Indices.{by_number}
use Rattle.hg_core.proofs.Begins.{session_at, no_snapshot}
use Rattle.hg_core.proofs.Versions.{opened_is}
use Rattle.hg_core.proofs.Publishing.{each_in}
use Rattle.hg_core.proofs.Runs.{step_kept, opened_steady}

-- a session's log changes
put_log : (sessions j : ℕ) (log : ℕ → List LogEntry) (l : List LogEntry) → IsSession sessions j → AloneHaveLogs sessions log → AloneHaveLogs sessions (put log j l)
put_log sessions j log l session a = by_number j (λ k b. IsSession sessions k ⊎ ((if b then l else log k) ≡ [])) (inl session) (λ k other. a k)

-- the sessions of a group have logs
published_log : (sessions n : ℕ) (log : ℕ → List LogEntry) (js : List ℕ) → ((j : ℕ) → is_in js j ≡ true → IsSome (current (log j))) → AloneHaveLogs sessions log →
    AloneHaveLogs sessions (published_logs log js n)
published_log sessions n log js opened_ a j = go (is_in js j) refl (a j)
  where
    go : (b : Bool) → is_in js j ≡ b → IsSession sessions j ⊎ (log j ≡ []) → IsSession sessions j ⊎ ((if b then Published n ∷ log j else log j) ≡ [])
    go b e (inl session) = inl session
    go true e (inr none) = absurd (let z : IsSome (current []) = subst (λ l. IsSome (current l)) none (opened_ j e) in cc)
    go false e (inr none) = inr none

event_alone : (s : CoreState) (e : Event) → IsSteady s → May s e → AloneHaveLogs s.sessions s.log → AloneHaveLogs s.sessions (happens s e).log
event_alone s (Declare j scope) h may a = a
event_alone s (Probe j) h may a = a
event_alone s (Enter j f) h may a = a
event_alone s (Fix j f) h may a = a
event_alone s (GoLive j m scope) h may a = put_log s.sessions j s.log _ (session_at s j h (λ e. let z = sym may.1 ∙ e in cc)) a
event_alone s (End j) h may a = put_log s.sessions j s.log _ (session_at s j h (no_snapshot _ may.live)) a
event_alone s (Mark p known) h may a = a
event_alone s (Sample p j) h may a = a
event_alone s (SampleMask p j) h may a = a
event_alone s (Move p j) h may a = a
event_alone s (Miss p j number) h may a = a
event_alone s (Install j r image) h may a = put_log s.sessions j s.log _ (session_at s j h (λ e. let z = sym may.2.live ∙ e in cc)) a
event_alone s (Undo j r) h may a = put_log s.sessions j s.log _ writes a
  where
    writes : IsSession s.sessions j
    writes = elim (a j) [
      | inl session ↦ session
      | inr none ↦ (let was = opened_is s.mark (writer_of (begun_in s.log) j) (versions s.buckets s.bucket r) may.mine (h.contents_are_ordered.ordered r) in
          let z : open_in r [] ≡ Some was.image = subst (λ l. open_in r l ≡ Some was.image) none (h.open_writes_stand.owned r (writer_of (begun_in s.log) j) was.image was.owned).1
          in absurd (let q : None ≡ Some was.image = z in cc))
    ]
event_alone s (Stamp j r) h may a = a
event_alone s (Publish js) h may a = published_log s.sessions _ s.log js (λ j e. each_in (λ k. IsSome (current (s.log k))) js j may.opened e) a
event_alone s (Reclaim p kind r) h may a = a
event_alone s (Take p) h may a = a
event_alone s (Look j ask b rows) h may a = put_log s.sessions j s.log _ (session_at s j h (λ e. let z = sym may.2.live ∙ e in cc)) a

step_alone : (s : CoreState) (e : Step) → IsSteady s → Can s e → AloneHaveLogs s.sessions s.log → AloneHaveLogs (step s e).sessions (step s e).log
step_alone s (Act event) h may a = same event (event_alone s event h may a)
  where
    same : (event : Event) → AloneHaveLogs s.sessions (happens s event).log → AloneHaveLogs (happens s event).sessions (happens s event).log
    same (Declare j scope) a = a
    same (Probe j) a = a
    same (Enter j f) a = a
    same (Fix j f) a = a
    same (GoLive j m scope) a = a
    same (End j) a = a
    same (Mark p known) a = a
    same (Sample p j) a = a
    same (SampleMask p j) a = a
    same (Move p j) a = a
    same (Miss p j number) a = a
    same (Install j r image) a = a
    same (Undo j r) a = a
    same (Stamp j r) a = a
    same (Publish js) a = a
    same (Reclaim p kind r) a = a
    same (Take p) a = a
    same (Look j ask b rows) a = a
step_alone s (Arrive p b) h may a = a
step_alone s (Leave p) h may a = a
step_alone s (Split p) h may a = a
step_alone s (Unite p q m) h may a = a

run_alone : (s : CoreState) (steps : List Step) → IsSteady s → AloneHaveLogs s.sessions s.log → Run s steps → AloneHaveLogs (run s steps).sessions (run s steps).log
run_alone s [] h a r = a
run_alone s (e ∷ steps) h a r = run_alone (step s e) steps (step_kept s e h r.0) (step_alone s e h r.0 a) r.1

pub alone_after : Always (λ s. AloneHaveLogs s.sessions s.log)
alone_after sessions tables buckets passes quota steps r = run_alone (opened sessions tables buckets passes quota) steps (opened_steady sessions tables buckets passes quota) (λ j. inr refl) r
