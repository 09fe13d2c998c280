-- An open write comes, goes, and gets the next number.
use Rattle.std.proofs.Common.{◌≡◌, ℕ, suc, ◌≤◌, List, [], ◌∷◌, length, Option, None, Some, inr, refl, sym, ap, ◌∙◌, subst, arith, ◌<◌}
use Rattle.std.specs.Prelude.{if◌then◌else◌, IsSome, IfSome, IsTrue, ⊤, not, is_some}
use Rattle.hg_base.specs.declared.rid.Rid.{Rid}
use Rattle.hg_base.specs.declared.image.Image.{Image}
use Rattle.hg_base.specs.declared.writer.Writer.{Writer}
use Rattle.hg_base.specs.declared.scope.Snapshot.{Snapshot}
use Rattle.hg_base.specs.History.{History, same_rid, image_in}
use Rattle.hg_base.proofs.HistoryFacts.{same_rid_itself}
use Rattle.hg_core.specs.declared.log.LogEntry.{LogEntry}
use Rattle.hg_core.specs.declared.log.LogEntry.TheVariants.{Saw, Refused, Outside, Wrote, Undid}
use Rattle.hg_core.specs.Logs.{current, begans, wrotes, published, has_number, begun_in, open_in, open_writes, AnswerUpTo, UpTo, own_writes}
use Rattle.hg_core.specs.Phases.{snapshot_in}
use Rattle.hg_core.specs.Versions.{installed, undone, stamped, IsOpenBy}
use Rattle.hg_core.specs.Contents.{versions, bucket_of}
use Rattle.hg_core.specs.OpenWrites.{writer_of}
use Rattle.hg_core.specs.Covered.{Reads, Covers, MayCommit}
use Rattle.hg_core.specs.Ordered.{IsOrdered, IsBacked}
use Rattle.hg_base.specs.Transcript.{has}
use Rattle.hg_core.specs.Judged.{Judge, Judged, UndoesOpen, LogsAnswer}
use Rattle.hg_core.specs.State.{CoreState}
use Rattle.hg_core.specs.Events.{put, happens, May, Install, Undo, Stamp}
use Rattle.hg_core.specs.Invariant.{IsSteady}
use Rattle.hg_core.proofs.Indices.{by_number, put_here, put_else, only_put, only_same}
use Rattle.hg_core.proofs.Publishing.{over_live}
use Rattle.hg_core.proofs.Replies.{replies_entry}
use Rattle.hg_core.proofs.LogSteps.{log_step}
use Rattle.hg_core.proofs.Recalls.{reach_step}
use Rattle.hg_core.proofs.Records.{by_rid, at_record}
use Rattle.hg_core.proofs.Covering.{covers_same, none_newer}
use Rattle.hg_core.proofs.Begins.{none_open, session_at, no_snapshot}
use Rattle.hg_core.proofs.Versions.{installed_newest, installed_ordered, IsOpened, opened_is}
use Rattle.hg_core.proofs.Backing.{backed_installed, backed_undone, backed_stamped}
use Rattle.hg_core.proofs.OpenWrites.{OnlyWrite, stand_alike, stand_installed, next_installed, stand_undone, next_undone, stand_stamped, next_stamped}
use Rattle.hg_core.specs.Counters.{added}
use Rattle.hg_core.proofs.Tallies.{added_is, counters_installed, counters_undone, counters_stamped}
use Rattle.hg_core.proofs.Visits.{visits_later, stays_stored}
use Rattle.hg_core.proofs.Clean.{stays_installed, stays_undone, stays_stamped}
use Rattle.hg_core.proofs.Placing.{placed_stored, table_of_held}
use Rattle.hg_core.proofs.NewGroup.{image_open}
use Rattle.hg_core.specs.declared.version.Version.{Version}
use Rattle.hg_core.specs.declared.phase.Phase.TheVariants.{Idle, Live}

-- ---- one entry more in the log of a session that stays in its phase

-- an entry of an open transaction that is no begin, number or end, and names no number over n
abbrev pub IsOwn : ℕ → LogEntry → Type 0
IsOwn n (Saw t low high b rows) = ⊤
IsOwn n (Refused r answer) = AnswerUpTo n answer
IsOwn n (Outside t) = ⊤
IsOwn n (Wrote r image) = ⊤
IsOwn n (Undid r) = ⊤
IsOwn n _ = ⊥

own_up : (n : ℕ) (e : LogEntry) (log : List LogEntry) → IsOwn n e → UpTo n log → UpTo n (e ∷ log)
own_up n (Saw t low high b rows) log own u = u
own_up n (Refused r answer) log own u = (own, u)
own_up n (Outside t) log own u = u
own_up n (Wrote r image) log own u = u
own_up n (Undid r) log own u = u
own_up n _ log own u = absurd own

own_same : (n : ℕ) (e : LogEntry) (log : List LogEntry) → IsOwn n e → (current (e ∷ log) ≡ current log) × (begans (e ∷ log) ≡ begans log)
own_same n (Saw t low high b rows) log own = (refl, refl)
own_same n (Refused r answer) log own = (refl, refl)
own_same n (Outside t) log own = (refl, refl)
own_same n (Wrote r image) log own = (refl, refl)
own_same n (Undid r) log own = (refl, refl)
own_same n _ log own = absurd own

own_published : (top n j : ℕ) (e : LogEntry) (log : List LogEntry) → IsOwn top e → published n j (e ∷ log) ≡ published n j log
own_published top n j (Saw t low high b rows) log own = refl
own_published top n j (Refused r answer) log own = refl
own_published top n j (Outside t) log own = refl
own_published top n j (Wrote r image) log own = refl
own_published top n j (Undid r) log own = refl
own_published top n j _ log own = absurd own

own_named : (top n : ℕ) (e : LogEntry) (log : List LogEntry) → IsOwn top e → IsTrue (has_number n log) → IsTrue (has_number n (e ∷ log))
own_named top n (Saw t low high b rows) log own h = h
own_named top n (Refused r answer) log own h = h
own_named top n (Outside t) log own h = h
own_named top n (Wrote r image) log own h = h
own_named top n (Undid r) log own h = h
own_named top n _ log own h = absurd own

own_judge : (top : ℕ) (h : History) (e : LogEntry) (log : List LogEntry) → IsOwn top e → IsSome (current log) → Judge h e log
own_judge top h (Saw t low high b rows) log own s = s
own_judge top h (Refused r answer) log own s = s
own_judge top h (Outside t) log own s = s
own_judge top h (Wrote r image) log own s = s
own_judge top h (Undid r) log own s = s
own_judge top h _ log own s = absurd own

pub answer_more : (s : CoreState) (j : ℕ) (e : LogEntry) → IsSteady s → IsOwn (length s.history) e → IsSome (current (s.log j)) → UndoesOpen (e ∷ s.log j) →
    wrotes (e ∷ s.log j) ≤ s.quota → LogsAnswer s.sessions s.quota s.history s.phase (put s.log j (e ∷ s.log j))
answer_more s j e h own some undone room =
    let top : ℕ = length s.history in
    let same = own_same top e (s.log j) own in
    log_step s.sessions s.quota s.history s.phase s.phase s.log (put s.log j (e ∷ s.log j)) j (s.phase j) (e ∷ s.log j) h.logs_answer (only_same s.phase j) (only_put s.log j (e ∷ s.log j))
    (same.0 ∙ h.logs_answer.reads j)
    (rw same.1 (h.logs_answer.room j))
    (over_live (s.phase j) (e ∷ s.log j) (subst IsSome (h.logs_answer.reads j) some))
    (own_up top e (s.log j) own (h.logs_answer.within j))
    (own_judge top s.history e (s.log j) own some, h.logs_answer.judged j)
    undone
    room
    (λ n. own_published top n j e (s.log j) own)
    (λ n. own_named top n e (s.log j) own)

pub begun_more : (log : ℕ → List LogEntry) (j : ℕ) (e : LogEntry) → begans (e ∷ log j) ≡ begans (log j) → (k : ℕ) → begun_in (put log j (e ∷ log j)) k ≡ begun_in log k
begun_more log j e same = by_number j (λ k b. begans (if b then e ∷ log j else log k) ≡ begans (log k)) same (λ k other. refl)

-- ---- open writes of the logs

opened_more : (log : ℕ → List LogEntry) (j : ℕ) (r : Rid) (image : Image) → OnlyWrite (open_writes log) (open_writes (put log j (Wrote r image ∷ log j))) j r (Some image)
opened_more log j r image = record {
  here = ap (open_in r) (put_here log j (Wrote r image ∷ log j)) ∙ ap (λ b. if b then Some image else open_in r (log j)) (same_rid_itself r);
  same = λ q other. ap (open_in q) (put_here log j (Wrote r image ∷ log j)) ∙ ap (λ b. if b then Some image else open_in q (log j)) other;
  there = λ k other q. ap (open_in q) (put_else log j k (Wrote r image ∷ log j) other);
}

opened_less : (log : ℕ → List LogEntry) (j : ℕ) (r : Rid) → OnlyWrite (open_writes log) (open_writes (put log j (Undid r ∷ log j))) j r None
opened_less log j r = record {
  here = ap (open_in r) (put_here log j (Undid r ∷ log j)) ∙ ap (λ b. if b then None else open_in r (log j)) (same_rid_itself r);
  same = λ q other. ap (open_in q) (put_here log j (Undid r ∷ log j)) ∙ ap (λ b. if b then None else open_in q (log j)) other;
  there = λ k other q. ap (open_in q) (put_else log j k (Undid r ∷ log j) other);
}

-- a session with an open write has a transaction open
pub current_open : (h : History) (r : Rid) (image : Image) (log : List LogEntry) → Judged h log → open_in r log ≡ Some image → IsSome (current log)
current_open h r image log judged e = go (current log) refl
  where
    go : (x : Option Snapshot) → current log ≡ x → IsSome x
    go (Some snapshot) q = refl
    go None q = absurd (let z = none_open h r log judged q in cc)

-- ---- a record that has a version

pub is_there : (s : CoreState) (r : Rid) → IsSteady s → 0 < length (versions s.buckets s.bucket r) → r.table.0 < s.tables
is_there s r h some = table_of_held s.tables r (s.bucket (bucket_of s.buckets r)) (h.contents_are_placed (bucket_of s.buckets r)).table some

some_held : (w : Writer) (vs : List Version) → IsOpenBy w vs → 0 < length vs
some_held w [] o = absurd o
some_held w (v ∷ vs) o = omega arith

-- ---- the events

pub install_kept : (s : CoreState) (j : ℕ) (r : Rid) (image : Image) → IsSteady s → May s (Install j r image) → IsSteady (happens s (Install j r image))
install_kept s j r image h (at, scope, may) =
    let w : Writer = writer_of (begun_in s.log) j in
    let held = versions s.buckets s.bucket r in
    let f = opened_more s.log j r image in
    record {
      mark_is_length = h.mark_is_length;
      taken_at_most_mark = h.taken_at_most_mark;
      history = h.history;
      no_update_is_lost = h.no_update_is_lost;
      registers_agree = h.registers_agree;
      records_bound_sessions = h.records_bound_sessions;
      records_reach_logs = reach_step s.phase s.phase s.log (put s.log j (Wrote r image ∷ s.log j)) s.pass j (s.phase j) (Wrote r image ∷ []) h.records_reach_logs
          (only_same s.phase j) (only_put s.log j (Wrote r image ∷ s.log j)) (λ e. inr e);
      covered = at_record s.buckets s.bucket r (installed w image held) (λ q c. Covers s.mark s.phase s.history q c)
          (covers_same s.mark s.phase s.history r held (installed w image held) (λ n le. installed_newest n w image held) h.mark_is_length.sessions (h.covered r)) (λ q other. h.covered q);
      open_writes_may_commit = by_number j (λ k t. (q : Rid) (i : Image) → open_in q (if t then Wrote r image ∷ s.log j else s.log k) ≡ Some i →
          MayCommit s.history q (s.phase k)) here (λ k other. h.open_writes_may_commit k);
      contents_are_ordered = record {
        ordered = at_record s.buckets s.bucket r (installed w image held) (λ q c. IsOrdered s.mark c)
            (installed_ordered s.mark w image held may.free (h.contents_are_ordered.ordered r)) (λ q other. h.contents_are_ordered.ordered q);
        backed = at_record s.buckets s.bucket r (installed w image held) (λ q c. IsBacked s.mark s.history q c)
            (backed_installed s.mark s.history r w image held (h.contents_are_ordered.backed r)) (λ q other. h.contents_are_ordered.backed q);
      };
      contents_are_placed = placed_stored s.tables s.buckets s.bucket r (installed w image held) (λ some. may.there) h.contents_are_placed;
      counters_balance = counters_installed s.sessions s.buckets s.passes s.log s.bucket s.counters s.visits j r w image
          (session_at s j h (λ e. let z : Live at scope ≡ Idle = sym may.live ∙ e in cc)) fresh h.counters_balance;
      visits_stay = visits_later s.passes s.buckets s.mark s.mark (versions s.buckets s.bucket) _ s.visits (omega arith)
          (stays_stored s.mark s.buckets s.bucket r (installed w image held) (stays_installed s.mark w image held)) h.visits_stay;
      open_writes_stand = stand_alike s.mark (begun_in s.log) _ _ _ _ (λ k q. refl) (λ k q i e. begun_more s.log j (Wrote r image) refl k)
          (stand_installed s.mark s.buckets s.bucket (begun_in s.log) (open_writes s.log) _ j r image may.free f h.open_writes_stand);
      stamped_is_next = next_installed s.mark s.buckets s.bucket (begun_in s.log) (open_writes s.log) _ j r image s.stamped_list may.unstamped f h.stamped_is_next;
      replies_answer = replies_entry s.buckets s.history s.log j (Wrote r image) tt h.logs_answer.within
          (subst (λ o. IfSome o (λ snapshot. IsTrue (has snapshot.scope r.table))) (sym (h.logs_answer.reads j ∙ ap snapshot_in may.live)) may.table, may.plain) h.replies_answer;
      logs_answer = answer_more s j (Wrote r image) h tt (subst IsSome (sym (h.logs_answer.reads j ∙ ap snapshot_in may.live)) refl) (h.logs_answer.undone j) (let k = may.room in omega arith);
    }
  where
    fresh : added (versions s.buckets s.bucket r) ≡ (if not (is_some (image_in r (own_writes (s.log j)))) then 1 else 0)
    fresh = added_is s.mark (writer_of (begun_in s.log) j) (versions s.buckets s.bucket r) (image_in r (own_writes (s.log j))) may.free
        (λ i e. h.open_writes_stand.owns r j i (sym (image_open r (s.log j) may.plain) ∙ e))
        (λ i e. image_open r (s.log j) may.plain ∙ (h.open_writes_stand.owned r (writer_of (begun_in s.log) j) i e).1)

    mine : MayCommit s.history r (s.phase j)
    mine = subst (MayCommit s.history r) (sym may.live) (
      may.table,
      none_newer s.mark s.phase s.history r (versions s.buckets s.bucket r) at (h.covered r)
          (inr (j, subst (λ p. Reads r.table p at) (sym may.live) (refl, may.table))) may.newest,
    )

    here : (q : Rid) (i : Image) → (if same_rid r q then Some image else open_in q (s.log j)) ≡ Some i → MayCommit s.history q (s.phase j)
    here = by_rid r (λ q t. (i : Image) → (if t then Some image else open_in q (s.log j)) ≡ Some i → MayCommit s.history q (s.phase j)) (λ i e. mine) (λ q other i e. h.open_writes_may_commit j q i e)

pub undo_kept : (s : CoreState) (j : ℕ) (r : Rid) → IsSteady s → May s (Undo j r) → IsSteady (happens s (Undo j r))
undo_kept s j r h may =
    let w : Writer = writer_of (begun_in s.log) j in
    let held = versions s.buckets s.bucket r in
    let was : IsOpened s.mark w held = opened_is s.mark w held may.mine (h.contents_are_ordered.ordered r) in
    let f = opened_less s.log j r in
    let mine : IsSome (current (s.log j)) = current_open s.history r was.image (s.log j) (h.logs_answer.judged j) (h.open_writes_stand.owned r w was.image was.owned).1 in
    record {
      mark_is_length = h.mark_is_length;
      taken_at_most_mark = h.taken_at_most_mark;
      history = h.history;
      no_update_is_lost = h.no_update_is_lost;
      registers_agree = h.registers_agree;
      records_bound_sessions = h.records_bound_sessions;
      records_reach_logs = reach_step s.phase s.phase s.log (put s.log j (Undid r ∷ s.log j)) s.pass j (s.phase j) (Undid r ∷ []) h.records_reach_logs (only_same s.phase j)
          (only_put s.log j (Undid r ∷ s.log j)) (λ e. inr e);
      covered = at_record s.buckets s.bucket r (undone held) (λ q c. Covers s.mark s.phase s.history q c)
          (covers_same s.mark s.phase s.history r held (undone held) (λ n le. was.newest_undone n) h.mark_is_length.sessions (h.covered r)) (λ q other. h.covered q);
      open_writes_may_commit = by_number j (λ k t. (q : Rid) (i : Image) → open_in q (if t then Undid r ∷ s.log j else s.log k) ≡ Some i → MayCommit s.history q (s.phase k)) here
          (λ k other. h.open_writes_may_commit k);
      contents_are_ordered = record {
        ordered = at_record s.buckets s.bucket r (undone held) (λ q c. IsOrdered s.mark c) was.ordered_undone (λ q other. h.contents_are_ordered.ordered q);
        backed = at_record s.buckets s.bucket r (undone held) (λ q c. IsBacked s.mark s.history q c) (backed_undone s.mark s.history r held (h.contents_are_ordered.backed r))
            (λ q other. h.contents_are_ordered.backed q);
      };
      contents_are_placed = placed_stored s.tables s.buckets s.bucket r (undone held) (λ some. is_there s r h (some_held w held may.mine)) h.contents_are_placed;
      counters_balance = counters_undone s.sessions s.buckets s.passes s.log s.bucket s.counters s.visits j r w
          (session_at s j h (no_snapshot (s.phase j) (subst IsSome (h.logs_answer.reads j) mine))) may.mine h.counters_balance;
      visits_stay = visits_later s.passes s.buckets s.mark s.mark (versions s.buckets s.bucket) _ s.visits (omega arith)
          (stays_stored s.mark s.buckets s.bucket r (undone held) (stays_undone s.mark w held may.mine)) h.visits_stay;
      open_writes_stand = stand_alike s.mark (begun_in s.log) _ _ _ _ (λ k q. refl) (λ k q i e. begun_more s.log j (Undid r) refl k)
          (stand_undone s.mark s.buckets s.bucket (begun_in s.log) (open_writes s.log) _ j r was f h.open_writes_stand);
      stamped_is_next = next_undone s.mark s.buckets s.bucket (begun_in s.log) (open_writes s.log) _ j r s.stamped_list may.unstamped was f h.stamped_is_next;
      replies_answer = replies_entry s.buckets s.history s.log j (Undid r) tt h.logs_answer.within tt h.replies_answer;
      logs_answer = answer_more s j (Undid r) h tt mine (subst IsSome (sym (h.open_writes_stand.owned r w was.image was.owned).1) refl, h.logs_answer.undone j) (h.logs_answer.written j);
    }
  where
    here : (q : Rid) (i : Image) → (if same_rid r q then None else open_in q (s.log j)) ≡ Some i → MayCommit s.history q (s.phase j)
    here = by_rid r (λ q t. (i : Image) → (if t then None else open_in q (s.log j)) ≡ Some i → MayCommit s.history q (s.phase j)) (λ i e. absurd (cc)) (λ q other i e. h.open_writes_may_commit j q i e)

pub stamp_kept : (s : CoreState) (j : ℕ) (r : Rid) → IsSteady s → May s (Stamp j r) → IsSteady (happens s (Stamp j r))
stamp_kept s j r h may =
    let w : Writer = writer_of (begun_in s.log) j in
    let held = versions s.buckets s.bucket r in
    let was : IsOpened s.mark w held = opened_is s.mark w held may.mine (h.contents_are_ordered.ordered r) in
    record {
      mark_is_length = h.mark_is_length;
      taken_at_most_mark = h.taken_at_most_mark;
      history = h.history;
      no_update_is_lost = h.no_update_is_lost;
      registers_agree = h.registers_agree;
      records_bound_sessions = h.records_bound_sessions;
      records_reach_logs = h.records_reach_logs;
      covered = at_record s.buckets s.bucket r (stamped (suc s.mark) w held) (λ q c. Covers s.mark s.phase s.history q c)
          (covers_same s.mark s.phase s.history r held (stamped (suc s.mark) w held) was.newest_stamped h.mark_is_length.sessions (h.covered r)) (λ q other. h.covered q);
      open_writes_may_commit = h.open_writes_may_commit;
      contents_are_ordered = record {
        ordered = at_record s.buckets s.bucket r (stamped (suc s.mark) w held) (λ q c. IsOrdered s.mark c) was.ordered_stamped (λ q other. h.contents_are_ordered.ordered q);
        backed = at_record s.buckets s.bucket r (stamped (suc s.mark) w held) (λ q c. IsBacked s.mark s.history q c)
            (backed_stamped s.mark s.history r w held (h.contents_are_ordered.backed r)) (λ q other. h.contents_are_ordered.backed q);
      };
      contents_are_placed = placed_stored s.tables s.buckets s.bucket r (stamped (suc s.mark) w held) (λ some. is_there s r h (some_held w held may.mine)) h.contents_are_placed;
      counters_balance = counters_stamped s.sessions s.buckets s.passes s.log s.bucket s.counters s.visits r (suc s.mark) w h.counters_balance;
      visits_stay = visits_later s.passes s.buckets s.mark s.mark (versions s.buckets s.bucket) _ s.visits (omega arith)
          (stays_stored s.mark s.buckets s.bucket r (stamped (suc s.mark) w held) (stays_stamped s.mark w held may.mine)) h.visits_stay;
      open_writes_stand = stand_stamped s.mark s.buckets s.bucket (begun_in s.log) (open_writes s.log) j r was h.open_writes_stand;
      stamped_is_next = next_stamped s.mark s.buckets s.bucket (begun_in s.log) (open_writes s.log) j r s.stamped_list was h.open_writes_stand h.stamped_is_next;
      replies_answer = h.replies_answer;
      logs_answer = h.logs_answer;
    }
