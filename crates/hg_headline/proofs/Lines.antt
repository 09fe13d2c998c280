-- Every line of any statement is right, and its session's lines go on showing the session's log.
use Rattle.std.proofs.Common.{◌≡◌, ℕ, ◌<◌, ◌≤◌, List, [], ◌∷◌, ◌++◌, length, true, false, Option, Some, None, refl, sym, ap, ◌∙◌, subst, arith}
use Rattle.std.specs.Prelude.{◌&&◌, IfSome, is_some}
use Rattle.std.specs.Option.{option_or}
use Rattle.hg_base.specs.declared.rid.Rid.{Rid}
use Rattle.hg_base.specs.declared.scope.Scope.{Scope}
use Rattle.hg_base.specs.declared.scope.Snapshot.{Snapshot}
use Rattle.hg_base.specs.declared.report.Kind.{Kind}
use Rattle.hg_base.specs.declared.statement.Statement.{Statement}
use Rattle.hg_base.specs.declared.statement.Statement.TheVariants.{Begin, Get, Put, Del, Scan, Commit as CommitIt, Rollback, Gc, CursorOpen, Fetch, CursorClose}
use Rattle.hg_base.specs.declared.line.Answer.{Answer}
use Rattle.hg_base.specs.declared.line.Answer.TheVariants.{Begun}
use Rattle.hg_base.specs.declared.line.Reply.{Reply}
use Rattle.hg_base.specs.Script.{Mode}
use Rattle.hg_base.specs.History.{History, seen}
use Rattle.hg_base.specs.Transcript.{Said, last_of, open_of, next_after, only, table_of, standing, said, said_after, stored_by, committed_by, Rest, rest_in}
use Rattle.hg_base.specs.Transcript.{own_writes as own_before}
use Rattle.hg_base.specs.Replies.{IsAnswer, IsBegun, IsCollected, is_written, IsFetched}
use Rattle.hg_base.specs.declared.rid.TableId.{TableId}
use Rattle.hg_core.specs.declared.log.LogEntry.{LogEntry}
use Rattle.hg_core.specs.declared.log.LogEntry.TheVariants.{Began}
use Rattle.hg_core.specs.Logs.{current, begans, own_writes}
use Rattle.hg_core.specs.Judged.{Judged}
use Rattle.hg_core.specs.Contents.{bucket_of}
use Rattle.hg_core.specs.Replies.{AreReplied}
use Rattle.hg_core.specs.Reading.{Unprinted, own_entries, begin_entries, is_access, is_alone, close, log_with, log_after, FitsAnswer, FitsScope, IsGcAnswer, Fits}
use Rattle.hg_core.specs.Reading.{fetch_entries, IsFetchAnswer, FitsIn, HasRest}
use Rattle.hg_core.proofs.Answering.{scope_alone, not_alone}
use Rattle.hg_core.proofs.Right.{answer_right, fetch_right}
use Rattle.hg_headline.proofs.Words.{none_of_no}
use Rattle.hg_base.proofs.Resting.{ShowsRest}
use Rattle.hg_headline.proofs.Ties.{Ties, StandsIn, ties_step, ties_beside}
use Rattle.hg_headline.proofs.Adds.{access_answer, access_snapshot, access_commits, adds_fetch, fetch_answer}
use Rattle.hg_headline.proofs.Ended.{writes_above}
use Rattle.hg_headline.proofs.Entries.{reply_of, record_of, says_inside, stands_inside, says_outside, stands_outside, says_begin, stands_begin}
use Rattle.hg_headline.proofs.Entries.{says_gc, gc_snapshot, says_within, stands_within, says_open, stands_open}
use Rattle.hg_headline.proofs.Right.{conflict_right, seen_is}
use Rattle.hg_headline.proofs.LineParts.{AsCollected, Right, or_none, none_or, rising_none, rising_some, close_judged, append_judged, close_replied, judged_snapshot, inside_own, above}
use Rattle.hg_headline.proofs.EndLines.{commit_judged, undone_judged, commit_line, rollback_line, close_line}

pub access_line : (mode : Mode) (buckets : ℕ) (h k : History) (logs : ℕ → List LogEntry) (all earlier : List Said) (u : Unprinted) (l : List LogEntry) (place j : ℕ) (s : Statement)
    (at : Option ℕ) (a : Answer) (number : Option ℕ) → ((r : Rid) → bucket_of buckets r < buckets) → Ties j earlier l → is_access s ≡ true → FitsAnswer buckets u (own_writes l) s a →
    (o : Option Said) (c : Option Snapshot) → open_of j earlier ≡ o → current l ≡ c → StandsIn o c (begans l) → is_some at ≡ is_alone c s →
    is_some number ≡ (is_alone c s && is_some (stored_by s a)) → IfSome c (λ snapshot. FitsScope snapshot.scope s a) →
    Judged h (log_with (is_alone c s) buckets u s (reply_of at a number) l) → AreReplied buckets h logs j (log_with (is_alone c s) buckets u s (reply_of at a number) l) →
    Right h logs mode k all earlier (standing o (next_after (last_of j earlier)) (record_of place j s) (reply_of at a number)) j (log_with (is_alone c s) buckets u s (reply_of at a number) l)
access_line mode buckets h k logs all earlier u l place j s at a number places ties e f None (Some c) p q st fat fnumber declared d g = absurd st
access_line mode buckets h k logs all earlier u l place j s at a number places ties e f (Some opened) None p q st fat fnumber declared d g = absurd st
access_line mode buckets h k logs all earlier u l place j s at a number places ties e f (Some opened) (Some c) p q st fat fnumber declared d g =
    let now : Said = standing (Some opened) (next_after (last_of j earlier)) (record_of place j s) (reply_of at a number) in
    let own : own_before earlier now ≡ own_writes l = inside_own j earlier l c now ties refl st.0 q in
    let small : c.at ≤ length h = judged_snapshot h l c (append_judged h (own_entries buckets u s a) l d) q in
    record {
      ties = ties_step j earlier now l (own_entries buckets u s a ++ l) ties
          (says_inside buckets u l opened (next_after (last_of j earlier)) (record_of place j s) at a number e f (none_of_no at fat) (none_of_no number fnumber) st.0)
          (stands_inside buckets u l c opened (next_after (last_of j earlier)) (record_of place j s) at a number e f q st);
      reply = λ t. record {
        at = fat;
        number = fnumber;
        snapshot = subst (λ n. n ≤ length k) (sym st.1.0) (subst (λ n. c.at ≤ n) t.count small);
        answer = subst (λ sees. IsAnswer mode sees (is_written (own_before earlier now)) (rest_in now.session now.transaction earlier) now s)
            (seen_is h k logs all earlier now (own_writes l) c.at t st.1.0 own)
            (answer_right mode buckets h logs (is_written (own_before earlier now)) (rest_in now.session now.transaction earlier) u j (own_writes l) s now l c places q st.1.1 e f declared g);
      };
      conflict = λ t still. conflict_right mode buckets h k logs all earlier now u j s l c t refl st.1.0 own still q g;
      rising = rising_none earlier now (access_snapshot a at (access_answer buckets u (own_writes l) s a e f) ∙ none_of_no at fat);
      commit = none_or number (committed_by s a) (none_of_no number fnumber);
    }
access_line mode buckets h k logs all earlier u l place j s at a number places ties e f None None p q st fat fnumber declared d g =
    subst (λ b. Judged h (log_with b buckets u s (reply_of at a number) l) → AreReplied buckets h logs j (log_with b buckets u s (reply_of at a number) l) →
    Right h logs mode k all earlier (standing None (next_after (last_of j earlier)) (record_of place j s) (reply_of at a number)) j (log_with b buckets u s (reply_of at a number) l)) (sym e)
    (go at (fat ∙ e)) d g
  where
    go : (at : Option ℕ) → is_some at ≡ true → Judged h (log_with true buckets u s (reply_of at a number) l) →
        AreReplied buckets h logs j (log_with true buckets u s (reply_of at a number) l) →
        Right h logs mode k all earlier (standing None (next_after (last_of j earlier)) (record_of place j s) (reply_of at a number)) j (log_with true buckets u s (reply_of at a number) l)
    go None not_there d g = absurd (let z : false ≡ true = not_there in cc)
    go (Some n) is_there d g =
        let now : Said = standing None (next_after (last_of j earlier)) (record_of place j s) (reply_of (Some n) a number) in
        let scope : Scope = only (table_of s) in
        let c : Snapshot = record { at = n; scope = scope } in
        let l0 : List LogEntry = Began n scope ∷ l in
        let replied : AreReplied buckets h logs j (own_entries buckets u s a ++ l0) = close_replied buckets h logs j number (own_entries buckets u s a ++ l0) g in
        let began : Judged h l0 = append_judged h (own_entries buckets u s a) l0 (close_judged h number (own_entries buckets u s a ++ l0) d) in
        let fresh : own_before earlier now ≡ [] = ties.own (next_after (last_of j earlier)) ∙
        writes_above (next_after (last_of j earlier)) l (above (next_after (last_of j earlier)) (begans l) ties.next) in
        record {
          ties = ties_step j earlier now l (close number ++ (own_entries buckets u s a ++ l0)) ties
              (says_outside buckets u l (record_of place j s) n a number (next_after (last_of j earlier)) e f ties.next)
              (stands_outside buckets u l (record_of place j s) n a number (next_after (last_of j earlier)) e f ties.next);
          reply = λ t. record {
            at = refl;
            number = fnumber ∙ ap (λ b. b && is_some (stored_by s a)) e;
            snapshot = subst (λ m. n ≤ m) t.count began.0.within;
            answer = subst (λ sees. IsAnswer mode sees (is_written (own_before earlier now)) (rest_in now.session now.transaction earlier) now s) (seen_is h k logs all earlier now [] n t refl fresh)
                (answer_right mode buckets h logs (is_written (own_before earlier now)) (rest_in now.session now.transaction earlier) u j
                (own_writes l) s now l0 c places refl refl e f (scope_alone s a) replied);
          };
          conflict = λ t still. conflict_right mode buckets h k logs all earlier now u j s l0 c t refl refl fresh still refl replied;
          rising = rising_some j earlier l now n ties refl (access_snapshot a (Some n) (access_answer buckets u (own_writes l) s a e f)) began.0.over;
          commit = or_none number ∙ ap (option_or number) (sym (access_commits s a e));
        }

-- ---- the others

-- neither `at` nor a number stands beside the answer
pub bare : (buckets : ℕ) (u : Unprinted) (l : List LogEntry) (s : Statement) (reply : Reply) → is_access s ≡ false → Fits buckets u l s reply → (reply.at ≡ None) × (reply.number ≡ None)
bare buckets u l s reply e f = (
  none_of_no reply.at (f.at ∙ not_alone (current l) s e),
  none_of_no reply.number (f.number ∙ ap (λ b. b && is_some (stored_by s reply.answer)) (not_alone (current l) s e)),
)

pub begin_line : (mode : Mode) (h k : History) (logs : ℕ → List LogEntry) (all earlier : List Said) (l : List LogEntry) (place j : ℕ) (scope : Scope) (at : Option ℕ) (a : Answer)
    (number : Option ℕ) → Ties j earlier l → at ≡ None → number ≡ None → IsBegun a →
    Judged h (begin_entries scope a ++ l) → Right h logs mode k all earlier (said_after (last_of j earlier) (record_of place j (Begin scope)) (reply_of at a number) (Begin scope))
    j (begin_entries scope a ++ l)
begin_line mode h k logs all earlier l place j scope at (Begun n) number ties no_at no_number f d =
    let now : Said = said_after (last_of j earlier) (record_of place j (Begin scope)) (reply_of at (Begun n) number) (Begin scope) in
    record {
      ties = ties_step j earlier now l (Began n scope ∷ l) ties (says_begin (last_of j earlier) l place j scope at n number) (stands_begin (last_of j earlier) l place j scope at n number ties.next);
      reply = λ t. record { at = ap is_some no_at; number = ap is_some no_number; snapshot = subst (λ m. n ≤ m) t.count d.0.within; answer = tt };
      conflict = λ t still. tt;
      rising = rising_some j earlier l now n ties refl refl d.0.over;
      commit = none_or number None no_number;
    }
begin_line mode h k logs all earlier l place j scope at _ number ties no_at no_number f d = absurd f

pub open_line : (mode : Mode) (h k : History) (logs : ℕ → List LogEntry) (all earlier : List Said) (l : List LogEntry) (place j : ℕ) (table : TableId) (low high : ℕ)
    (at : Option ℕ) (a : Answer) (number : Option ℕ) → Ties j earlier l → at ≡ None → number ≡ None → IsBegun a →
    Judged h (begin_entries (only (Some table)) a ++ l) → Right h logs mode k all earlier
    (said_after (last_of j earlier) (record_of place j (CursorOpen table low high)) (reply_of at a number) (CursorOpen table low high)) j (begin_entries (only (Some table)) a ++ l)
open_line mode h k logs all earlier l place j table low high at (Begun n) number ties no_at no_number f d =
    let now : Said = said_after (last_of j earlier) (record_of place j (CursorOpen table low high)) (reply_of at (Begun n) number) (CursorOpen table low high) in
    record {
      ties = ties_step j earlier now l (Began n (only (Some table)) ∷ l) ties (says_open (last_of j earlier) l place j table low high at n number)
          (stands_open (last_of j earlier) l place j table low high at n number ties.next);
      reply = λ t. record { at = ap is_some no_at; number = ap is_some no_number; snapshot = subst (λ m. n ≤ m) t.count d.0.within; answer = tt };
      conflict = λ t still. tt;
      rising = rising_some j earlier l now n ties refl refl d.0.over;
      commit = none_or number None no_number;
    }
open_line mode h k logs all earlier l place j table low high at _ number ties no_at no_number f d = absurd f

-- the rows of a fetch are those of what its cursor has left
pub fetch_line : (mode : Mode) (buckets : ℕ) (h k : History) (logs : ℕ → List LogEntry) (all earlier : List Said) (u : Unprinted) (l : List LogEntry) (place j n : ℕ)
    (at : Option ℕ) (a : Answer) (number : Option ℕ) → Ties j earlier l → at ≡ None → number ≡ None → IsFetchAnswer buckets n u.rest u.part u.looked a →
    Judged h (fetch_entries buckets u.rest u.part u.looked a ++ l) → AreReplied buckets h logs j (fetch_entries buckets u.rest u.part u.looked a ++ l) → (left : Option Rest) →
    ShowsRest j earlier left → u.rest ≡ left →
    (o : Option Said) (c : Option Snapshot) → open_of j earlier ≡ o → current l ≡ c → StandsIn o c (begans l) → FitsIn c (Fetch n) →
    Right h logs mode k all earlier (standing o (next_after (last_of j earlier)) (record_of place j (Fetch n)) (reply_of at a number)) j (fetch_entries buckets u.rest u.part u.looked a ++ l)
fetch_line mode buckets h k logs all earlier u l place j n at a number ties no_at no_number f d g left shown rest o None p q st inside = absurd (let z : false ≡ true = inside in cc)
fetch_line mode buckets h k logs all earlier u l place j n at a number ties no_at no_number f d g left shown rest None (Some c) p q st inside = absurd st
fetch_line mode buckets h k logs all earlier u l place j n at a number ties no_at no_number f d g left shown rest (Some opened) (Some c) p q st inside =
    let now : Said = standing (Some opened) (next_after (last_of j earlier)) (record_of place j (Fetch n)) (reply_of at a number) in
    let own : own_before earlier now ≡ own_writes l = inside_own j earlier l c now ties refl st.0 q in
    let small : c.at ≤ length h = judged_snapshot h l c (append_judged h (fetch_entries buckets u.rest u.part u.looked a) l d) q in
    let adds = adds_fetch buckets n u.rest u.part u.looked a l f in
    let kind = fetch_answer buckets n u.rest u.part u.looked a f in
    let there : u.rest ≡ rest_in j opened.transaction earlier = rest ∙ shown opened p in
    record {
      ties = ties_step j earlier now l (fetch_entries buckets u.rest u.part u.looked a ++ l) ties
          (says_within l (fetch_entries buckets u.rest u.part u.looked a ++ l) opened (next_after (last_of j earlier)) (record_of place j (Fetch n)) at a number adds kind refl no_at no_number st.0)
          (stands_within l (fetch_entries buckets u.rest u.part u.looked a ++ l) c opened (next_after (last_of j earlier)) (record_of place j (Fetch n)) at a number adds refl q st);
      reply = λ t. record {
        at = ap is_some no_at;
        number = ap is_some no_number;
        snapshot = subst (λ m. m ≤ length k) (sym st.1.0) (subst (λ m. c.at ≤ m) t.count small);
        answer = subst (λ sees. IsFetched sees n (rest_in j opened.transaction earlier) a) (seen_is h k logs all earlier now (own_writes l) c.at t st.1.0 own)
            (subst (λ r. IsFetched (seen h (own_writes l) c.at) n r a) there (fetch_right buckets h logs j n u.rest u.part u.looked a l c q f g));
      };
      conflict = λ t still. tt;
      rising = rising_none earlier now (access_snapshot a at kind ∙ no_at);
      commit = none_or number None no_number;
    }

pub gc_line : (mode : Mode) (h k : History) (logs : ℕ → List LogEntry) (all earlier : List Said) (l : List LogEntry) (place j : ℕ) (kind : Kind) (at : Option ℕ) (a : Answer)
    (number : Option ℕ) → Ties j earlier l → at ≡ None → number ≡ None → IsGcAnswer a → IsCollected mode j a →
    Right h logs mode k all earlier (said_after (last_of j earlier) (record_of place j (Gc kind)) (reply_of at a number) (Gc kind)) j l
gc_line mode h k logs all earlier l place j kind at a number ties no_at no_number is f =
    let now : Said = said_after (last_of j earlier) (record_of place j (Gc kind)) (reply_of at a number) (Gc kind) in
    record {
      ties = ties_beside j earlier now l ties (says_gc (last_of j earlier) l place j kind at a number no_at no_number is) refl;
      reply = λ t. record { at = ap is_some no_at; number = ap is_some no_number; snapshot = omega arith; answer = f };
      conflict = λ t still. tt;
      rising = rising_none earlier now (gc_snapshot a at is ∙ no_at);
      commit = none_or number None no_number;
    }

-- ---- any line

pub plain_after : (buckets : ℕ) (u : Unprinted) (s : Statement) (reply : Reply) (l : List LogEntry) → is_access s ≡ false → own_entries buckets u s reply.answer ++ l ≡ log_after buckets u s reply l
plain_after buckets u s reply l e = sym (ap (λ b. log_with b buckets u s reply l) (not_alone (current l) s e))

pub line_right : (mode : Mode) (buckets : ℕ) (h k : History) (logs : ℕ → List LogEntry) (all earlier : List Said) (u : Unprinted) (l : List LogEntry) (place j : ℕ) (s : Statement)
    (reply : Reply) → ((r : Rid) → bucket_of buckets r < buckets) → Ties j earlier l → Fits buckets u l s reply → AsCollected mode j s reply.answer →
    Judged h (log_after buckets u s reply l) → AreReplied buckets h logs j (log_after buckets u s reply l) → (left : Option Rest) → ShowsRest j earlier left →
    HasRest s u.rest left → Right h logs mode k all earlier (said earlier (record_of place j s) reply) j (log_after buckets u s reply l)
line_right mode buckets h k logs all earlier u l place j (Get r) reply places ties f gc d g left shown rest = access_line mode buckets h k logs all earlier u l place j
    (Get r) reply.at reply.answer reply.number places ties refl f.answer (open_of j earlier) (current l) refl refl ties.standing f.at f.number f.scope d g
line_right mode buckets h k logs all earlier u l place j (Put r row) reply places ties f gc d g left shown rest = access_line mode buckets h k logs all earlier u l place j
    (Put r row) reply.at reply.answer reply.number places ties refl f.answer (open_of j earlier) (current l) refl refl ties.standing f.at f.number f.scope d g
line_right mode buckets h k logs all earlier u l place j (Del r) reply places ties f gc d g left shown rest = access_line mode buckets h k logs all earlier u l place j
    (Del r) reply.at reply.answer reply.number places ties refl f.answer (open_of j earlier) (current l) refl refl ties.standing f.at f.number f.scope d g
line_right mode buckets h k logs all earlier u l place j (Scan table low high) reply places ties f gc d g left shown rest = access_line mode buckets h k logs all earlier u l place
    j (Scan table low high) reply.at reply.answer reply.number places ties refl f.answer (open_of j earlier) (current l) refl refl ties.standing f.at f.number f.scope d g
line_right mode buckets h k logs all earlier u l place j (Begin scope) reply places ties f gc d g left shown rest =
    let no = bare buckets u l (Begin scope) reply refl f in
    let e = plain_after buckets u (Begin scope) reply l refl in
    subst (Right h logs mode k all earlier (said earlier (record_of place j (Begin scope)) reply) j) e
    (begin_line mode h k logs all earlier l place j scope reply.at reply.answer reply.number ties no.0 no.1 f.answer (subst (Judged h) (sym e) d))
line_right mode buckets h k logs all earlier u l place j (CursorOpen table low high) reply places ties f gc d g left shown rest =
    let no = bare buckets u l (CursorOpen table low high) reply refl f in
    let e = plain_after buckets u (CursorOpen table low high) reply l refl in
    subst (Right h logs mode k all earlier (said earlier (record_of place j (CursorOpen table low high)) reply) j) e
    (open_line mode h k logs all earlier l place j table low high reply.at reply.answer reply.number ties no.0 no.1 f.answer (subst (Judged h) (sym e) d))
line_right mode buckets h k logs all earlier u l place j (Fetch n) reply places ties f gc d g left shown rest =
    let no = bare buckets u l (Fetch n) reply refl f in
    let e = plain_after buckets u (Fetch n) reply l refl in
    subst (Right h logs mode k all earlier (said earlier (record_of place j (Fetch n)) reply) j) e
    (fetch_line mode buckets h k logs all earlier u l place j n reply.at reply.answer reply.number ties no.0 no.1 f.answer (subst (Judged h) (sym e) d)
    (subst (AreReplied buckets h logs j) (sym e) g) left shown rest (open_of j earlier) (current l) refl refl ties.standing f.inside)
line_right mode buckets h k logs all earlier u l place j CursorClose reply places ties f gc d g left shown rest =
    let no = bare buckets u l CursorClose reply refl f in
    let e = plain_after buckets u CursorClose reply l refl in
    let was = undone_judged h [] l (subst (Judged h) (sym e) d) in
    subst (Right h logs mode k all earlier (said earlier (record_of place j CursorClose) reply) j) e
    (close_line mode h k logs all earlier l place j reply.at reply.answer reply.number ties no.0 no.1 f.answer was.1 (open_of j earlier) (current l) refl ties.standing was.0)
line_right mode buckets h k logs all earlier u l place j CommitIt reply places ties f gc d g left shown rest =
    let no = bare buckets u l CommitIt reply refl f in
    let e = plain_after buckets u CommitIt reply l refl in
    let was = commit_judged h reply.answer l (subst (Judged h) (sym e) d) in
    subst (Right h logs mode k all earlier (said earlier (record_of place j CommitIt) reply) j) e
    (commit_line mode h k logs all earlier l place j reply.at reply.answer reply.number ties no.0 no.1 f.answer was.1 (open_of j earlier) (current l) refl ties.standing was.0)
line_right mode buckets h k logs all earlier u l place j Rollback reply places ties f gc d g left shown rest =
    let no = bare buckets u l Rollback reply refl f in
    let e = plain_after buckets u Rollback reply l refl in
    let was = undone_judged h u.undone l (subst (Judged h) (sym e) d) in
    subst (Right h logs mode k all earlier (said earlier (record_of place j Rollback) reply) j) e
    (rollback_line mode h k logs all earlier u l place j reply.at reply.answer reply.number ties no.0 no.1 f.answer.0 was.1 (open_of j earlier) (current l) refl ties.standing was.0)
line_right mode buckets h k logs all earlier u l place j (Gc kind) reply places ties f gc d g left shown rest =
    let no = bare buckets u l (Gc kind) reply refl f in
    subst (Right h logs mode k all earlier (said earlier (record_of place j (Gc kind)) reply) j) (plain_after buckets u (Gc kind) reply l refl)
    (gc_line mode h k logs all earlier l place j kind reply.at reply.answer reply.number ties no.0 no.1 f.answer gc)
