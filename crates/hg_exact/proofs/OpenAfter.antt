-- Whether a session's transaction or cursor is open after a statement.
use Rattle.std.proofs.Common.{◌≡◌, ℕ, zero, suc, List, [], ◌∷◌, ◌++◌, Bool, true, false, Option, Some, None, refl, sym, ap, ◌∙◌, subst, arith}
use Rattle.std.specs.Prelude.{cond, fold, is_some, unwrap_or, ◌==◌, ◌||◌}
use Rattle.std.proofs.lemmas.Bool.Decides.{Decides-eqb, nat_tests}
use Rattle.hg_base.specs.declared.rid.Rid.{Rid}
use Rattle.hg_base.specs.declared.rid.TableId.{TableId}
use Rattle.hg_base.specs.declared.scope.Snapshot.{Snapshot}
use Rattle.hg_base.specs.declared.statement.Statement.{Statement}
use Rattle.hg_base.specs.declared.statement.Statement.TheVariants.{Begin, Get, Put, Del, Scan, CursorOpen, Fetch, CursorClose, Commit as CommitIt, Rollback, Gc}
use Rattle.hg_base.specs.declared.statement.Record.{Record}
use Rattle.hg_base.specs.declared.line.Answer.{Answer}
use Rattle.hg_base.specs.declared.line.Answer.TheVariants.{Begun, Found, Nothing, Stored, Gone, Rows, Committed, Newer, OpenBy, Undeclared}
use Rattle.hg_base.specs.declared.line.Reply.{Reply}
use Rattle.hg_base.specs.declared.value.Value.{Value}
use Rattle.hg_base.specs.Replies.{IsBegun}
use Rattle.hg_base.specs.Transcript.{Rest, only, table_of}
use Rattle.hg_base.proofs.ListFacts.{false_true}
use Rattle.hg_core.specs.declared.log.LogEntry.{LogEntry}
use Rattle.hg_core.specs.declared.log.LogEntry.TheVariants.{Began}
use Rattle.hg_core.specs.Logs.{current}
use Rattle.hg_core.specs.Events.{put}
use Rattle.hg_core.specs.Reading.{Unprinted, Fits, get_entries, put_entries, del_entries, scan_entries, fetch_entries, saws, looks, own_entries, log_after, log_with, is_access, is_alone, close}
use Rattle.hg_core.proofs.OwnKeys.{saws_keep}
use Rattle.hg_core.proofs.Indices.{at_index, put_here, put_else}
use Rattle.hg_script.specs.Lawful.{MayStand}
use Rattle.hg_script.specs.Rules.{is_open, opened, opened_by, is_reading, reading, reading_by}
use Rattle.hg_exact.specs.Opening.{AreOpen}

-- ---- whether anything is open in a log after a statement

pub open_get : (n : ℕ) (r : Rid) (a : Answer) (log : List LogEntry) → current (get_entries n r a ++ log) ≡ current log
open_get n r (Found row) log = refl
open_get n r Nothing log = refl
open_get n r (Undeclared table) log = refl
open_get n r _ log = refl

pub open_put : (r : Rid) (row : List Value) (a : Answer) (log : List LogEntry) → current (put_entries r row a ++ log) ≡ current log
open_put r row Stored log = refl
open_put r row (Newer number) log = refl
open_put r row (OpenBy writer) log = refl
open_put r row (Undeclared table) log = refl
open_put r row _ log = refl

pub open_del : (n : ℕ) (found : List Value) (r : Rid) (a : Answer) (log : List LogEntry) → current (del_entries n found r a ++ log) ≡ current log
open_del n found r Nothing log = refl
open_del n found r Gone log = refl
open_del n found r (Newer number) log = refl
open_del n found r (OpenBy writer) log = refl
open_del n found r (Undeclared table) log = refl
open_del n found r _ log = refl

pub open_saws : (buckets : ℕ) (t : TableId) (low high : ℕ) (part : ℕ → List (ℕ × List Value)) (n : ℕ) (log : List LogEntry) → current (saws buckets t low high part n ++ log) ≡ current log
open_saws buckets t low high part n log = saws_keep (λ m. current m ≡ current log) buckets t low high part n log (λ b rows m e. e) refl

pub open_scan : (n : ℕ) (part : ℕ → List (ℕ × List Value)) (t : TableId) (low high : ℕ) (a : Answer) (log : List LogEntry) → current (scan_entries n part t low high a ++ log) ≡ current log
open_scan n part t low high (Rows rows) log = open_saws n t low high part n log
open_scan n part t low high (Undeclared table) log = refl
open_scan n part t low high _ log = refl

open_looks : (buckets : ℕ) (t : TableId) (low high : ℕ) (part : ℕ → List (ℕ × List Value)) (n : ℕ) (log : List LogEntry) → current (looks buckets t low high part n ++ log) ≡ current log
open_looks buckets t low high part zero log = refl
open_looks buckets t low high part (suc n) log = open_looks buckets t low high part n log

open_fetch : (n : ℕ) (rest : Option Rest) (part : ℕ → List (ℕ × List Value)) (looked : ℕ) (a : Answer) (log : List LogEntry) → current (fetch_entries n rest part looked a ++ log) ≡ current log
open_fetch n (Some rest) part looked (Rows rows) log = open_looks n rest.table rest.low rest.high part looked log
open_fetch n (Some rest) part looked _ log = refl
open_fetch n None part looked a log = refl

-- a get, put, del or scan leaves it open where it was
pub open_access : (n : ℕ) (u : Unprinted) (s : Statement) (a : Answer) (log : List LogEntry) → is_access s ≡ true → current (own_entries n u s a ++ log) ≡ current log
open_access n u (Get r) a log access = open_get n r a log
open_access n u (Put r row) a log access = open_put r row a log
open_access n u (Del r) a log access = open_del n u.found r a log
open_access n u (Scan t low high) a log access = open_scan n u.part t low high a log
open_access n u _ a log access = absurd (false_true access)

-- and outside it is over at once
pub open_within : (o : Option Snapshot) (n : ℕ) (u : Unprinted) (s : Statement) (reply : Reply) (log : List LogEntry) → is_access s ≡ true → current log ≡ o →
    is_some (current (log_with (is_alone o s) n u s reply log)) ≡ is_some o
open_within (Some snapshot) n u s reply log access e = ap is_some (open_access n u s reply.answer log access ∙ e)
open_within None n u s reply log access e = ap (λ b. is_some (current (log_with b n u s reply log))) access ∙ over reply.number
  where
    over : (o : Option ℕ) → is_some (current (close o ++ (own_entries n u s reply.answer ++ (Began (unwrap_or reply.at 0) (only (table_of s)) ∷ log)))) ≡ false
    over None = refl
    over (Some number) = refl

-- whether a transaction or a cursor is open then
abbrev pub held : Bool → Statement → Bool
held before (Begin scope) = true
held before (CursorOpen table low high) = true
held before CursorClose = false
held before CommitIt = false
held before Rollback = false
held before _ = before

-- a statement that begins a transaction
open_begun : (n : ℕ) (u : Unprinted) (s : Statement) (at number : Option ℕ) (a : Answer) (log : List LogEntry) (o : Option Snapshot) → is_access s ≡ false → IsBegun a →
    ((at : ℕ) → is_some (current (own_entries n u s (Begun at) ++ log)) ≡ true) → is_some (current (log_with (is_alone o s) n u s (record { at = at; answer = a; number = number }) log)) ≡ true
open_begun n u s at number (Begun m) log None none begun k = ap (λ b. is_some (current (log_with b n u s (record { at = at; answer = Begun m; number = number }) log))) none ∙ k m
open_begun n u s at number (Begun m) log (Some snapshot) none begun k = k m
open_begun n u s at number _ log o none begun k = absurd begun

pub open_after : (n : ℕ) (u : Unprinted) (s : Statement) (reply : Reply) (log : List LogEntry) → Fits n u log s reply → is_some (current (log_after n u s reply log)) ≡ held (is_some (current log)) s
open_after n u (Get r) reply log fits = open_within (current log) n u (Get r) reply log refl refl
open_after n u (Put r row) reply log fits = open_within (current log) n u (Put r row) reply log refl refl
open_after n u (Del r) reply log fits = open_within (current log) n u (Del r) reply log refl refl
open_after n u (Scan t low high) reply log fits = open_within (current log) n u (Scan t low high) reply log refl refl
open_after n u (Begin scope) reply log fits = open_begun n u (Begin scope) reply.at reply.number reply.answer log (current log) refl fits.answer (λ at. refl)
open_after n u (CursorOpen t low high) reply log fits = open_begun n u (CursorOpen t low high) reply.at reply.number reply.answer log (current log) refl fits.answer (λ at. refl)
open_after n u (Fetch m) reply log fits = go (current log) refl
  where
    go : (o : Option Snapshot) → current log ≡ o → is_some (current (log_with (is_alone o (Fetch m)) n u (Fetch m) reply log)) ≡ is_some o
    go None e = ap is_some (open_fetch n u.rest u.part u.looked reply.answer log ∙ e)
    go (Some snapshot) e = ap is_some (open_fetch n u.rest u.part u.looked reply.answer log ∙ e)
open_after n u CursorClose reply log fits = go (current log)
  where
    go : (o : Option Snapshot) → is_some (current (log_with (is_alone o CursorClose) n u CursorClose reply log)) ≡ false
    go None = refl
    go (Some snapshot) = refl
open_after n u CommitIt reply log fits = go (current log) reply.answer
  where
    go : (o : Option Snapshot) (a : Answer) → is_some (current (log_with (is_alone o CommitIt) n u CommitIt (record { at = reply.at; answer = a; number = reply.number }) log)) ≡ false
    go None (Committed number) = refl
    go (Some snapshot) (Committed number) = refl
    go None _ = refl
    go (Some snapshot) _ = refl
open_after n u Rollback reply log fits = go (current log)
  where
    go : (o : Option Snapshot) → is_some (current (log_with (is_alone o Rollback) n u Rollback reply log)) ≡ false
    go None = refl
    go (Some snapshot) = refl
open_after n u (Gc kind) reply log fits = go (current log) refl
  where
    go : (o : Option Snapshot) → current log ≡ o → is_some (current (log_with (is_alone o (Gc kind)) n u (Gc kind) reply log)) ≡ is_some o
    go None e = ap is_some e
    go (Some snapshot) e = ap is_some e

-- ---- a statement that may stand there

pub open_step : (s : Statement) (within reads before : Bool) → AreOpen within reads before → MayStand within reads s → AreOpen (opened within s) (reading reads s) (held before s)
open_step (Begin scope) false false before a m = refl
open_step (Begin scope) false true before a m = absurd (false_true (sym m))
open_step (Begin scope) true reads before a m = absurd (false_true (sym m))
open_step (CursorOpen t low high) false false before a m = refl
open_step (CursorOpen t low high) false true before a m = absurd (false_true (sym m))
open_step (CursorOpen t low high) true reads before a m = absurd (false_true (sym m))
open_step CursorClose false true before a m = refl
open_step CursorClose true true before a m = absurd a
open_step CursorClose within false before a m = absurd (false_true m)
open_step CommitIt true false before a m = refl
open_step CommitIt true true before a m = absurd a
open_step CommitIt false reads before a m = absurd (false_true m)
open_step Rollback true false before a m = refl
open_step Rollback true true before a m = absurd a
open_step Rollback false reads before a m = absurd (false_true m)
open_step (Get r) within reads before a m = a
open_step (Put r row) within reads before a m = a
open_step (Del r) within reads before a m = a
open_step (Scan t low high) within reads before a m = a
open_step (Fetch n) within reads before a m = a
open_step (Gc kind) within reads before a m = a

pub none_open : {X : Type 0} (o : Option X) → is_some o ≡ false → o ≡ None
none_open None e = refl
none_open (Some x) e = absurd (false_true (sym e))

-- nothing is open where neither is
pub none_held : (within reads before : Bool) → AreOpen within reads before → (within || reads) ≡ false → (reads ≡ false) × (before ≡ false)
none_held false false before a m = (refl, a)
none_held false true before a m = absurd (false_true (sym m))
none_held true reads before a m = absurd (false_true (sym m))

-- a transaction is open and no cursor
pub within_held : (within reads before : Bool) → AreOpen within reads before → within ≡ true → (reads ≡ false) × (before ≡ true)
within_held true false before a m = (refl, a)
within_held true true before a m = absurd a
within_held false reads before a m = absurd (false_true m)

-- a cursor is open, which is something
pub reads_held : (within reads before : Bool) → AreOpen within reads before → reads ≡ true → before ≡ true
reads_held false true before a m = a
reads_held true true before a m = absurd a
reads_held within false before a m = absurd (false_true m)

-- ---- by the records so far

pub open_snoc : (j : ℕ) (rs : List Record) (r : Record) → is_open j (rs ++ r ∷ []) ≡ opened_by j (is_open j rs) r
open_snoc j rs r = folds false rs
  where
    folds : (b : Bool) (rs : List Record) → fold (opened_by j) b (rs ++ r ∷ []) ≡ opened_by j (fold (opened_by j) b rs) r
    folds b [] = refl
    folds b (q ∷ rs) = folds (opened_by j b q) rs

pub reads_snoc : (j : ℕ) (rs : List Record) (r : Record) → is_reading j (rs ++ r ∷ []) ≡ reading_by j (is_reading j rs) r
reads_snoc j rs r = folds false rs
  where
    folds : (b : Bool) (rs : List Record) → fold (reading_by j) b (rs ++ r ∷ []) ≡ reading_by j (fold (reading_by j) b rs) r
    folds b [] = refl
    folds b (q ∷ rs) = folds (reading_by j b q) rs

-- of the record's own session, and of another one
pub open_own : (j : ℕ) (rs : List Record) (r : Record) → r.session ≡ j → (is_open j (rs ++ r ∷ []) ≡ opened (is_open j rs) r.statement) ×
    (is_reading j (rs ++ r ∷ []) ≡ reading (is_reading j rs) r.statement)
open_own j rs r same =
    let own : (r.session == j) ≡ true = (Decides-eqb r.session j).1 same in (
      open_snoc j rs r ∙ ap (λ b. cond b (opened (is_open j rs) r.statement) (is_open j rs)) own,
      reads_snoc j rs r ∙ ap (λ b. cond b (reading (is_reading j rs) r.statement) (is_reading j rs)) own,
    )

pub open_other : (j : ℕ) (rs : List Record) (r : Record) → (r.session == j) ≡ false → (is_open j (rs ++ r ∷ []) ≡ is_open j rs) × (is_reading j (rs ++ r ∷ []) ≡ is_reading j rs)
open_other j rs r other = (
  open_snoc j rs r ∙ ap (λ b. cond b (opened (is_open j rs) r.statement) (is_open j rs)) other,
  reads_snoc j rs r ∙ ap (λ b. cond b (reading (is_reading j rs) r.statement) (is_reading j rs)) other,
)

-- ---- of all sessions

pub opened_more : (buckets : ℕ) (old new : ℕ → List LogEntry) (rs : List Record) (r : Record) (u : Unprinted) (reply : Reply) →
    new ≡ put old r.session (log_after buckets u r.statement reply (old r.session)) → Fits buckets u (old r.session) r.statement reply →
    MayStand (is_open r.session rs) (is_reading r.session rs) r.statement →
    ((j : ℕ) → AreOpen (is_open j rs) (is_reading j rs) (is_some (current (old j)))) → (j : ℕ) → AreOpen (is_open j (rs ++ r ∷ [])) (is_reading j (rs ++ r ∷ [])) (is_some (current (new j)))
opened_more buckets old new rs r u reply is fits may before = at_index r.session (λ j. AreOpen (is_open j (rs ++ r ∷ [])) (is_reading j (rs ++ r ∷ [])) (is_some (current (new j)))) here others
  where
    log : List LogEntry
    log = log_after buckets u r.statement reply (old r.session)

    here : AreOpen (is_open r.session (rs ++ r ∷ [])) (is_reading r.session (rs ++ r ∷ [])) (is_some (current (new r.session)))
    here =
        let own = open_own r.session rs r refl in
        let now : held (is_some (current (old r.session))) r.statement ≡ is_some (current (new r.session)) =
        sym (open_after buckets u r.statement reply (old r.session) fits) ∙ ap (λ m. is_some (current m)) (sym (put_here old r.session log)) ∙
        ap (λ logs. is_some (current (logs r.session))) (sym is) in
        subst (λ p. p) (λ i. AreOpen (sym own.0 i) (sym own.1 i) (now i))
        (open_step r.statement (is_open r.session rs) (is_reading r.session rs) (is_some (current (old r.session))) (before r.session) may)

    others : (j : ℕ) → (j ≡ r.session → ⊥) → AreOpen (is_open j (rs ++ r ∷ [])) (is_reading j (rs ++ r ∷ [])) (is_some (current (new j)))
    others j z =
        let other = open_other j rs r (grind (arith, nat_tests, z)) in
        let kept : is_some (current (old j)) ≡ is_some (current (new j)) = ap (λ m. is_some (current m)) (sym (put_else old r.session j log z)) ∙ ap (λ logs. is_some (current (logs j))) (sym is) in
        subst (λ p. p) (λ i. AreOpen (sym other.0 i) (sym other.1 i) (kept i)) (before j)
