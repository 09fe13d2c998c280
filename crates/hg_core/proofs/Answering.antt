-- Each statement of a log is answered as a table would that never reclaims.
use Rattle.std.proofs.Common.{◌≡◌, ℕ, ◌<◌, ◌≤◌, List, [], ◌∷◌, ◌++◌, length, Bool, true, false, Option, Some, None, refl, sym, ap, ◌∙◌, subst, arith}
use Rattle.std.specs.Prelude.{◌==◌, ◌%◌, if◌then◌else◌, Contains, IsFalse, IfSome, unwrap_or}
use Rattle.std.proofs.lemmas.Nat.{pow_pos}
use Rattle.std.proofs.Math.Nat.{div_self}
use Rattle.std.proofs.lemmas.List.Elements.{Contains-append_left, Contains-append_right}
use Rattle.std.proofs.lemmas.Bool.Decides.{nat_tests}
use Rattle.hg_base.specs.declared.rid.Rid.{Rid}
use Rattle.hg_base.specs.declared.scope.Snapshot.{Snapshot}
use Rattle.hg_base.specs.declared.statement.Statement.{Statement}
use Rattle.hg_base.specs.declared.statement.Statement.TheVariants.{Begin, Get, Put, Del, Scan, CursorOpen, Fetch, CursorClose, Commit as CommitIt, Rollback, Gc}
use Rattle.hg_base.specs.declared.line.Answer.{Answer}
use Rattle.hg_base.specs.declared.line.Answer.TheVariants.{Rows, Committed, Newer, OpenBy}
use Rattle.hg_base.specs.declared.line.Reply.{Reply}
use Rattle.hg_base.specs.declared.value.Value.{Value}
use Rattle.hg_base.specs.Script.{replay}
use Rattle.hg_base.specs.History.{History, seen, group_at}
use Rattle.hg_base.specs.Transcript.{Said, only, table_of, committed_by}
use Rattle.hg_base.specs.Replies.{IsFetched, IsCommitted, IsAnswer, is_written}
use Rattle.hg_base.specs.Conflicts.{target}
use Rattle.hg_base.proofs.ListFacts.{if_some_keeps}
use Rattle.hg_core.specs.declared.log.LogEntry.{LogEntry}
use Rattle.hg_core.specs.declared.log.LogEntry.TheVariants.{Began, Saw, Refused, Outside, Wrote, Undid, Published, Over}
use Rattle.hg_core.specs.Logs.{current, own_writes, commit_in, published, UpTo}
use Rattle.hg_core.specs.Judged.{of_session}
use Rattle.hg_core.specs.Replies.{AreReplied}
use Rattle.hg_core.specs.Reading.{Unprinted, close, commit_entries, put_entries, del_entries, own_entries, is_access, is_alone, log_with, log_after, IsFetchAnswer, FitsAnswer, FitsScope, FitsIn, Fits}
use Rattle.hg_core.specs.Answered.{begun_log, done_log, is_gc, StandsAt, IsCaused, IsAnswered}
use Rattle.hg_core.specs.State.{CoreState}
use Rattle.hg_core.specs.Invariant.{IsSteady}
use Rattle.hg_core.proofs.Right.{answer_right, fetch_right, of_some, places_of}

-- ---- the older part of a log

older_replied : (buckets : ℕ) (h : History) (logs : ℕ → List LogEntry) (j : ℕ) (later l : List LogEntry) → AreReplied buckets h logs j (later ++ l) → AreReplied buckets h logs j l
older_replied buckets h logs j [] l g = g
older_replied buckets h logs j (e ∷ later) l g = older_replied buckets h logs j later l g.1

older_up : (n : ℕ) (later l : List LogEntry) → UpTo n (later ++ l) → UpTo n l
older_up n [] l u = u
older_up n (Began at scope ∷ later) l u = older_up n later l u.1
older_up n (Refused r answer ∷ later) l u = older_up n later l u.1
older_up n (Published m ∷ later) l u = older_up n later l u.1
older_up n (Saw t low high b rows ∷ later) l u = older_up n later l u
older_up n (Outside t ∷ later) l u = older_up n later l u
older_up n (Wrote r image ∷ later) l u = older_up n later l u
older_up n (Undid r ∷ later) l u = older_up n later l u
older_up n (Over ∷ later) l u = older_up n later l u

-- the open transaction's snapshot is one of the log's numbers
current_up : (n : ℕ) (l : List LogEntry) → UpTo n l → IfSome (current l) (λ snapshot. snapshot.at ≤ n)
current_up n [] u = tt
current_up n (Began at scope ∷ l) u = u.0
current_up n (Over ∷ l) u = tt
current_up n (Refused r answer ∷ l) u = current_up n l u.1
current_up n (Published m ∷ l) u = current_up n l u.1
current_up n (Saw t low high b rows ∷ l) u = current_up n l u
current_up n (Outside t ∷ l) u = current_up n l u
current_up n (Wrote r image ∷ l) u = current_up n l u
current_up n (Undid r ∷ l) u = current_up n l u

-- a commit number stands in the log with its transaction
published_has : (n j : ℕ) (later l : List LogEntry) → Contains (published n j (later ++ (Over ∷ Published n ∷ l))) (commit_in j l)
published_has n j [] l =
    let same : (n == n) ≡ true = grind (arith, nat_tests) in
    Contains-append_right (published n j l) (if n == n then commit_in j l ∷ [] else []) (commit_in j l)
    (subst (λ b. Contains (if b then commit_in j l ∷ [] else []) (commit_in j l)) (sym same) (0, omega arith, refl))
published_has n j (Published m ∷ later) l = Contains-append_left _ (if m == n then commit_in j (later ++ (Over ∷ Published n ∷ l)) ∷ [] else []) (commit_in j l) (published_has n j later l)
published_has n j (Began at scope ∷ later) l = published_has n j later l
published_has n j (Saw t low high b rows ∷ later) l = published_has n j later l
published_has n j (Refused r answer ∷ later) l = published_has n j later l
published_has n j (Outside t ∷ later) l = published_has n j later l
published_has n j (Wrote r image ∷ later) l = published_has n j later l
published_has n j (Undid r ∷ later) l = published_has n j later l
published_has n j (Over ∷ later) l = published_has n j later l

-- ---- a statement and the log at which it stands

pub not_alone : (x : Option Snapshot) (statement : Statement) → is_access statement ≡ false → is_alone x statement ≡ false
not_alone None statement e = e
not_alone (Some snapshot) statement e = refl

-- the log at which an access stands, by whether it is a transaction of its own
abbrev pub access_log : Bool → Statement → Reply → List LogEntry → List LogEntry
access_log alone statement reply log = if alone then Began (unwrap_or reply.at 0) (only (table_of statement)) ∷ log else log

replied_at : (buckets : ℕ) (h : History) (logs : ℕ → List LogEntry) (j : ℕ) (u : Unprinted) (statement : Statement) (reply : Reply) (before : List LogEntry) (b : Bool) →
    AreReplied buckets h logs j (log_with b buckets u statement reply before) → AreReplied buckets h logs j (own_entries buckets u statement reply.answer ++ access_log b statement reply before)
replied_at buckets h logs j u statement reply before true g = older_replied buckets h logs j (close reply.number) _ g
replied_at buckets h logs j u statement reply before false g = g

up_at : (n buckets : ℕ) (u : Unprinted) (statement : Statement) (reply : Reply) (before : List LogEntry) (b : Bool) → UpTo n (log_with b buckets u statement reply before) →
    UpTo n (access_log b statement reply before)
up_at n buckets u statement reply before true up = older_up n (own_entries buckets u statement reply.answer) _ (older_up n (close reply.number) _ up)
up_at n buckets u statement reply before false up = older_up n (own_entries buckets u statement reply.answer) before up

current_at : (statement : Statement) (reply : Reply) (before : List LogEntry) → is_access statement ≡ true → (c : Snapshot) ×
    (current (access_log (is_alone (current before) statement) statement reply before) ≡ Some c)
current_at statement reply before access = go (current before) refl
  where
    go : (x : Option Snapshot) → current before ≡ x → (c : Snapshot) × (current (access_log (is_alone x statement) statement reply before) ≡ Some c)
    go None e = (record { at = unwrap_or reply.at 0; scope = only (table_of statement) }, ap (λ b. current (access_log b statement reply before)) access)
    go (Some c) e = (c, e)

-- its own transaction has the table of a statement
pub scope_alone : (statement : Statement) (a : Answer) → FitsScope (only (table_of statement)) statement a
scope_alone (Scan table low high) (Rows rows) = ap (λ n. (n % 2) == 1) (div_self (pow_pos table.0))
scope_alone (Scan table low high) _ = tt
scope_alone _ a = tt

scope_at : (statement : Statement) (reply : Reply) (before : List LogEntry) → is_access statement ≡ true →
    IfSome (current before) (λ snapshot. FitsScope snapshot.scope statement reply.answer) → (c : Snapshot) →
    current (access_log (is_alone (current before) statement) statement reply before) ≡ Some c → FitsScope c.scope statement reply.answer
scope_at statement reply before access declared c e = go (current before) refl declared e
  where
    go : (x : Option Snapshot) → current before ≡ x → IfSome x (λ snapshot. FitsScope snapshot.scope statement reply.answer) →
        current (access_log (is_alone x statement) statement reply before) ≡ Some c → FitsScope c.scope statement reply.answer
    go None q s e = of_some (current (access_log true statement reply before)) (λ snapshot. FitsScope snapshot.scope statement reply.answer) c
        (ap (λ b. current (access_log b statement reply before)) (sym access) ∙ e) (scope_alone statement reply.answer)
    go (Some d) q s e = of_some (Some d) (λ snapshot. FitsScope snapshot.scope statement reply.answer) c (sym q ∙ e) s

-- ---- its snapshot

snapshot_up : (n buckets : ℕ) (u : Unprinted) (statement : Statement) (reply : Reply) (before : List LogEntry) → UpTo n (log_after buckets u statement reply before) →
    UpTo n (begun_log statement reply before)
snapshot_up n buckets u (Begin scope) reply before up = subst (λ b. UpTo n (log_with b buckets u (Begin scope) reply before)) (not_alone (current before) (Begin scope) refl) up
snapshot_up n buckets u (CursorOpen table low high) reply before up = subst (λ b. UpTo n (log_with b buckets u (CursorOpen table low high) reply before))
    (not_alone (current before) (CursorOpen table low high) refl) up
snapshot_up n buckets u s reply before up = up_at n buckets u s reply before (is_alone (current before) s) up

-- ---- its answer

access_answered : (buckets : ℕ) (h : History) (logs : ℕ → List LogEntry) (j : ℕ) (u : Unprinted) (before : List LogEntry) (now : Said) (statement : Statement) → 0 < buckets →
    is_access statement ≡ true → AreReplied buckets h logs j (log_after buckets u statement now.reply before) → FitsAnswer buckets u (own_writes before) statement now.reply.answer
    → IfSome (current before) (λ snapshot. FitsScope snapshot.scope statement now.reply.answer)
    → IfSome (current (access_log (is_alone (current before) statement) statement now.reply before)) (λ snapshot. (now.at ≡ snapshot.at) × (now.scope ≡ snapshot.scope))
    → (let own = own_writes (access_log (is_alone (current before) statement) statement now.reply before) in IsAnswer replay (seen h own now.at) (is_written own) u.rest now statement)
access_answered buckets h logs j u before now statement some access g fits declared at =
    let l : List LogEntry = access_log (is_alone (current before) statement) statement now.reply before in
    let c = current_at statement now.reply before access in
    let same = of_some (current l) (λ snapshot. (now.at ≡ snapshot.at) × (now.scope ≡ snapshot.scope)) c.0 c.1 at in
    subst (λ n. IsAnswer replay (seen h (own_writes l) n) (is_written (own_writes l)) u.rest now statement) (sym same.0)
    (answer_right replay buckets h logs (is_written (own_writes l)) u.rest u j (own_writes before) statement now l c.0 (places_of buckets some) c.1 same.1 access fits
    (scope_at statement now.reply before access declared c.0 c.1) (replied_at buckets h logs j u statement now.reply before (is_alone (current before) statement) g))

-- a commit or a rollback reads the log before it
own_before : (statement : Statement) (reply : Reply) (before : List LogEntry) → is_access statement ≡ false →
    own_writes (access_log (is_alone (current before) statement) statement reply before) ≡ own_writes before
own_before statement reply before e = ap (λ b. own_writes (access_log b statement reply before)) (not_alone (current before) statement e)

-- a fetch stands in a transaction, and reads what is left of its cursor's range
fetch_answered : (buckets : ℕ) (h : History) (logs : ℕ → List LogEntry) (j : ℕ) (u : Unprinted) (before : List LogEntry) (now : Said) (n : ℕ) →
    AreReplied buckets h logs j (log_after buckets u (Fetch n) now.reply before) → IsFetchAnswer buckets n u.rest u.part u.looked now.reply.answer
    → IfSome (current (access_log (is_alone (current before) (Fetch n)) (Fetch n) now.reply before)) (λ snapshot. (now.at ≡ snapshot.at) × (now.scope ≡ snapshot.scope))
    → FitsIn (current before) (Fetch n)
    → IsFetched (seen h (own_writes (access_log (is_alone (current before) (Fetch n)) (Fetch n) now.reply before)) now.at) n u.rest now.reply.answer
fetch_answered buckets h logs j u before now n g fits at inside = go (current before) refl g at inside
  where
    go : (x : Option Snapshot) → current before ≡ x → AreReplied buckets h logs j (log_with (is_alone x (Fetch n)) buckets u (Fetch n) now.reply before) →
        IfSome (current (access_log (is_alone x (Fetch n)) (Fetch n) now.reply before)) (λ snapshot. (now.at ≡ snapshot.at) × (now.scope ≡ snapshot.scope)) → FitsIn x (Fetch n) →
        IsFetched (seen h (own_writes (access_log (is_alone x (Fetch n)) (Fetch n) now.reply before)) now.at) n u.rest now.reply.answer
    go None e g at inside = absurd (let z : false ≡ true = inside in cc)
    go (Some c) e g at inside =
        let same = of_some (current before) (λ snapshot. (now.at ≡ snapshot.at) × (now.scope ≡ snapshot.scope)) c e at in
        subst (λ m. IsFetched (seen h (own_writes before) m) n u.rest now.reply.answer) (sym same.0) (fetch_right buckets h logs j n u.rest u.part u.looked now.reply.answer before c e fits g)

answer_due : (buckets : ℕ) (h : History) (logs : ℕ → List LogEntry) (j : ℕ) (u : Unprinted) (before : List LogEntry) (now : Said) (statement : Statement) → 0 < buckets →
    IsFalse (is_gc statement) → AreReplied buckets h logs j (log_after buckets u statement now.reply before) → FitsAnswer buckets u (own_writes before) statement now.reply.answer
    → IfSome (current before) (λ snapshot. FitsScope snapshot.scope statement now.reply.answer)
    → IfSome (current (begun_log statement now.reply before)) (λ snapshot. (now.at ≡ snapshot.at) × (now.scope ≡ snapshot.scope))
    → FitsIn (current before) statement
    → (let own = own_writes (begun_log statement now.reply before) in IsAnswer replay (seen h own now.at) (is_written own) u.rest now statement)
answer_due buckets h logs j u before now (Begin scope) some logged g fits declared at inside = fits
answer_due buckets h logs j u before now (CursorOpen table low high) some logged g fits declared at inside = fits
answer_due buckets h logs j u before now (Fetch n) some logged g fits declared at inside = fetch_answered buckets h logs j u before now n g fits at inside
answer_due buckets h logs j u before now CursorClose some logged g fits declared at inside = fits
answer_due buckets h logs j u before now CommitIt some logged g fits declared at inside = subst (λ own. IsCommitted (is_written own) now.reply.answer)
    (sym (own_before CommitIt now.reply before refl)) fits
answer_due buckets h logs j u before now Rollback some logged g fits declared at inside = fits.0
answer_due buckets h logs j u before now (Gc kind) some logged g fits declared at inside = absurd (let z : true ≡ false = logged in cc)
answer_due buckets h logs j u before now s some logged g fits declared at inside = access_answered buckets h logs j u before now s some refl g fits declared at

-- ---- the cause of a refusal

put_caused : (buckets : ℕ) (h : History) (logs : ℕ → List LogEntry) (j : ℕ) (r : Rid) (row : List Value) (answer : Answer) (l : List LogEntry) (c : Snapshot) → current l ≡ Some c →
    AreReplied buckets h logs j (put_entries r row answer ++ l) → IsCaused h logs j (own_writes l) c.at r answer
put_caused buckets h logs j r row (Newer n) l c e g = (of_some (current l) _ c e g.0).1
put_caused buckets h logs j r row (OpenBy w) l c e g = (of_some (current l) _ c e g.0).1
put_caused buckets h logs j r row _ l c e g = tt

del_caused : (buckets : ℕ) (h : History) (logs : ℕ → List LogEntry) (j : ℕ) (found : List Value) (r : Rid) (answer : Answer) (l : List LogEntry) (c : Snapshot) →
    current l ≡ Some c → AreReplied buckets h logs j (del_entries buckets found r answer ++ l) → IsCaused h logs j (own_writes l) c.at r answer
del_caused buckets h logs j found r (Newer n) l c e g = (of_some (current l) _ c e g.0).1
del_caused buckets h logs j found r (OpenBy w) l c e g = (of_some (current l) _ c e g.0).1
del_caused buckets h logs j found r _ l c e g = tt

cause_due : (buckets : ℕ) (h : History) (logs : ℕ → List LogEntry) (j : ℕ) (u : Unprinted) (before : List LogEntry) (now : Said) (statement : Statement) →
    AreReplied buckets h logs j (log_after buckets u statement now.reply before)
    → IfSome (current (begun_log statement now.reply before)) (λ snapshot. (now.at ≡ snapshot.at) × (now.scope ≡ snapshot.scope))
    → IfSome (target statement) (λ r. IsCaused h logs j (own_writes (begun_log statement now.reply before)) now.at r now.reply.answer)
cause_due buckets h logs j u before now (Put r row) g at =
    let l : List LogEntry = access_log (is_alone (current before) (Put r row)) (Put r row) now.reply before in
    let c = current_at (Put r row) now.reply before refl in
    let same = of_some (current l) (λ snapshot. (now.at ≡ snapshot.at) × (now.scope ≡ snapshot.scope)) c.0 c.1 at in
    subst (λ n. IsCaused h logs j (own_writes l) n r now.reply.answer) (sym same.0)
    (put_caused buckets h logs j r row now.reply.answer l c.0 c.1 (replied_at buckets h logs j u (Put r row) now.reply before (is_alone (current before) (Put r row)) g))
cause_due buckets h logs j u before now (Del r) g at =
    let l : List LogEntry = access_log (is_alone (current before) (Del r)) (Del r) now.reply before in
    let c = current_at (Del r) now.reply before refl in
    let same = of_some (current l) (λ snapshot. (now.at ≡ snapshot.at) × (now.scope ≡ snapshot.scope)) c.0 c.1 at in
    subst (λ n. IsCaused h logs j (own_writes l) n r now.reply.answer) (sym same.0)
    (del_caused buckets h logs j u.found r now.reply.answer l c.0 c.1 (replied_at buckets h logs j u (Del r) now.reply before (is_alone (current before) (Del r)) g))
cause_due buckets h logs j u before now _ g at = tt

-- ---- its commit number

access_number : (buckets j : ℕ) (u : Unprinted) (statement : Statement) (reply : Reply) (before later : List LogEntry) (b : Bool)
    → IfSome (if b then reply.number else None) (λ n. Contains (published n j (later ++ log_with b buckets u statement reply before))
    (commit_in j (own_entries buckets u statement reply.answer ++ access_log b statement reply before)))
access_number buckets j u statement reply before later false = tt
access_number buckets j u statement reply before later true = go reply.number
  where
    l : List LogEntry
    l = own_entries buckets u statement reply.answer ++ (Began (unwrap_or reply.at 0) (only (table_of statement)) ∷ before)

    go : (x : Option ℕ) → IfSome x (λ n. Contains (published n j
        (later ++ (close x ++ (own_entries buckets u statement reply.answer ++ (Began (unwrap_or reply.at 0) (only (table_of statement)) ∷ before)))))
        (commit_in j (own_entries buckets u statement reply.answer ++ (Began (unwrap_or reply.at 0) (only (table_of statement)) ∷ before))))
    go None = tt
    go (Some n) = published_has n j later l

commit_number : (j : ℕ) (answer : Answer) (before later : List LogEntry) →
    IfSome (committed_by CommitIt answer) (λ n. Contains (published n j (later ++ (commit_entries answer ++ before))) (commit_in j before))
commit_number j (Committed n) before later = published_has n j later before
commit_number j _ before later = tt

-- the commit number that a reply prints, by whether its statement is a transaction of its own
abbrev pub number_by : Bool → Statement → Reply → Option ℕ
number_by alone statement reply = if alone then reply.number else committed_by statement reply.answer

number_due : (buckets j : ℕ) (u : Unprinted) (statement : Statement) (reply : Reply) (before later : List LogEntry) →
    IfSome (number_by (is_alone (current before) statement) statement reply) (λ n. Contains (published n j (later ++ log_after buckets u statement reply before))
    (commit_in j (done_log buckets u statement reply before)))
number_due buckets j u CommitIt reply before later = subst (λ b. IfSome (number_by b CommitIt reply)
    (λ n. Contains (published n j (later ++ log_with b buckets u CommitIt reply before)) (commit_in j before))) (sym (not_alone (current before) CommitIt refl))
    (commit_number j reply.answer before later)
number_due buckets j u (Get r) reply before later = access_number buckets j u (Get r) reply before later (is_alone (current before) (Get r))
number_due buckets j u (Put r row) reply before later = access_number buckets j u (Put r row) reply before later (is_alone (current before) (Put r row))
number_due buckets j u (Del r) reply before later = access_number buckets j u (Del r) reply before later (is_alone (current before) (Del r))
number_due buckets j u (Scan table low high) reply before later = access_number buckets j u (Scan table low high) reply before later (is_alone (current before) (Scan table low high))
number_due buckets j u s reply before later = subst (λ b. IfSome (number_by b s reply)
    (λ n. Contains (published n j (later ++ log_after buckets u s reply before)) (commit_in j (done_log buckets u s reply before)))) (sym (not_alone (current before) s refl)) tt

-- ---- in whole

pub answered : (s : CoreState) → IsSteady s → 0 < s.buckets → (j : ℕ) (later before : List LogEntry) (u : Unprinted) (now : Said) →
    s.log j ≡ later ++ log_after s.buckets u now.statement now.reply before → Fits s.buckets u before now.statement now.reply → StandsAt j before now →
    IsAnswered s.buckets s.history s.log j u before now
answered s h some j later before u now log fits stands =
    let replied : AreReplied s.buckets s.history s.log j (log_after s.buckets u now.statement now.reply before) = older_replied s.buckets s.history s.log j later _
    (subst (AreReplied s.buckets s.history s.log j) log (h.replies_answer j)) in
    let up : UpTo (length s.history) (log_after s.buckets u now.statement now.reply before) = older_up (length s.history) later _ (subst (UpTo (length s.history)) log (h.logs_answer.within j)) in
    record {
      snapshot = current_up (length s.history) (begun_log now.statement now.reply before) (snapshot_up (length s.history) s.buckets u now.statement now.reply before up);
      answer = answer_due s.buckets s.history s.log j u before now now.statement some stands.logged replied fits.answer fits.scope stands.snapshot fits.inside;
      cause = cause_due s.buckets s.history s.log j u before now now.statement replied stands.snapshot;
      number = subst (λ b. IfSome (number_by b now.statement now.reply)
          (λ n. Contains (of_session j (group_at s.history n)) (commit_in j (done_log s.buckets u now.statement now.reply before)))) (sym stands.alone)
          (if_some_keeps (number_by (is_alone (current before) now.statement) now.statement now.reply)
          (λ n. Contains (published n j (later ++ log_after s.buckets u now.statement now.reply before)) (commit_in j (done_log s.buckets u now.statement now.reply before)))
          (λ n. Contains (of_session j (group_at s.history n)) (commit_in j (done_log s.buckets u now.statement now.reply before)))
          (λ n c. subst (λ cs. Contains cs (commit_in j (done_log s.buckets u now.statement now.reply before))) (sym (h.logs_answer.commits n j ∙ ap (published n j) log)) c)
          (number_due s.buckets j u now.statement now.reply before later));
    }
