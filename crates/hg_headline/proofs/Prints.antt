-- What a reply prints is in the log after it.
use Rattle.std.proofs.Common.{◌≡◌, ℕ, ◌≤◌, List, [], ◌∷◌, ◌++◌, Bool, true, false, Option, Some, None, refl, sym, ◌∙◌, subst}
use Rattle.std.specs.Prelude.{◌&&◌, unwrap_or, is_some, IsTrue, IfSome}
use Rattle.std.specs.List.{cons_option}
use Rattle.std.specs.Option.{option_or}
use Rattle.hg_base.specs.declared.scope.Scope.{Scope}
use Rattle.hg_base.specs.declared.report.Kind.{Kind}
use Rattle.hg_base.specs.declared.statement.Statement.{Statement}
use Rattle.hg_base.specs.declared.statement.Statement.TheVariants.{Begin, Get, Put, Del, Scan, Commit as CommitIt, Rollback, Gc, CursorOpen, Fetch, CursorClose}
use Rattle.hg_base.specs.declared.line.Answer.{Answer}
use Rattle.hg_base.specs.declared.line.Answer.TheVariants.{Begun, Committed, Ended, Undone, Swept, Beside}
use Rattle.hg_base.specs.declared.line.Reply.{Reply}
use Rattle.hg_base.specs.Lists.{Each}
use Rattle.hg_base.specs.Replies.{IsBegun, IsCommitted, IsUndone, is_written, IsEnded}
use Rattle.hg_base.specs.Transcript.{committed_by, stored_by, only, table_of}
use Rattle.hg_base.specs.declared.rid.TableId.{TableId}
use Rattle.hg_core.specs.declared.log.LogEntry.{LogEntry}
use Rattle.hg_core.specs.declared.log.LogEntry.TheVariants.{Began}
use Rattle.hg_core.specs.Logs.{current, own_writes, UpTo}
use Rattle.hg_core.specs.Reading.{Unprinted, Fits, FitsAnswer, IsGcAnswer, own_entries, is_access, is_alone, log_with, log_after, IsFetchAnswer}
use Rattle.hg_core.proofs.Answering.{not_alone}
use Rattle.hg_headline.specs.Timely.{snapshot_in, newer_in, commit_in}
use Rattle.hg_headline.proofs.Words.{none_of_no}
use Rattle.hg_headline.proofs.Adds.{adds_access, access_answer, access_commits, access_snapshot, access_newer, adds_fetch, fetch_answer}
use Rattle.hg_headline.proofs.Ended.{close_known}
use Rattle.hg_headline.proofs.Lines.{bare}

-- the numbers that a reply prints, besides a mark, are at or below n
pub record ArePrinted (n : ℕ) (s : Statement) (reply : Reply) : Type 0 where
  pub snapshot : IfSome (snapshot_in reply) (λ at. at ≤ n)
  pub newer : IfSome (newer_in reply) (λ c. c ≤ n)
  pub commit : IfSome (commit_in s reply) (λ c. c ≤ n)

abbrev pub reply_with : Option ℕ → Answer → Option ℕ → Reply
reply_with at a number = record { at = at; answer = a; number = number }

pub of_head : (P : ℕ → Type 0) (o : Option ℕ) → Each P (cons_option o []) → IfSome o P
of_head P None k = tt
of_head P (Some x) k = k.0

pub some_within : (n : ℕ) (o : Option ℕ) → unwrap_or o 0 ≤ n → IfSome o (λ at. at ≤ n)
some_within n None k = tt
some_within n (Some at) k = k

pub none_commits : (n : ℕ) (s : Statement) (a : Answer) (number : Option ℕ) → committed_by s a ≡ None → IfSome number (λ c. c ≤ n) → IfSome (option_or number (committed_by s a)) (λ c. c ≤ n)
none_commits n s a None e k = subst (λ o. IfSome o (λ c. c ≤ n)) (sym e) tt
none_commits n s a (Some c) e k = k

pub access_printed : (buckets : ℕ) (u : Unprinted) (l : List LogEntry) (s : Statement) (at : Option ℕ) (a : Answer) (number : Option ℕ) (n : ℕ) (b : Bool) → IsTrue (is_access s) →
    is_some at ≡ b → is_some number ≡ (b && is_some (stored_by s a)) → FitsAnswer buckets u (own_writes l) s a →
    UpTo n (log_with b buckets u s (reply_with at a number) l) → ArePrinted n s (reply_with at a number)
access_printed buckets u l s at a number n false e fat fnumber f k =
    let is : IsTrue (is_access s) = e in
    let adds = (adds_access buckets u (own_writes l) s a l e f).known n k in
    let none : number ≡ None = none_of_no number fnumber in record {
      snapshot = subst (λ o. IfSome o (λ m. m ≤ n)) (sym (access_snapshot a at (access_answer buckets u (own_writes l) s a e f) ∙ none_of_no at fat)) tt;
      newer = of_head (λ m. m ≤ n) (newer_in (reply_with at a number)) (access_newer n a adds.1);
      commit = none_commits n s a number (access_commits s a e) (subst (λ o. IfSome o (λ m. m ≤ n)) (sym none) tt);
    }
access_printed buckets u l s at a number n true e fat fnumber f k =
    let l0 : List LogEntry = Began (unwrap_or at 0) (only (table_of s)) ∷ l in
    let closed = close_known number n (own_entries buckets u s a ++ l0) k in
    let adds = (adds_access buckets u (own_writes l) s a l0 e f).known n closed.0 in record {
      snapshot = subst (λ o. IfSome o (λ m. m ≤ n)) (sym (access_snapshot a at (access_answer buckets u (own_writes l) s a e f))) (some_within n at adds.0.0);
      newer = of_head (λ m. m ≤ n) (newer_in (reply_with at a number)) (access_newer n a adds.1);
      commit = none_commits n s a number (access_commits s a e) (of_head (λ m. m ≤ n) number closed.1);
    }

pub begin_printed : (buckets : ℕ) (u : Unprinted) (l : List LogEntry) (scope : Scope) (at : Option ℕ) (a : Answer) (number : Option ℕ) (n : ℕ) → at ≡ None → number ≡ None →
    IsBegun a → UpTo n (own_entries buckets u (Begin scope) a ++ l) → ArePrinted n (Begin scope) (reply_with at a number)
begin_printed buckets u l scope at (Begun m) number n no_at no_number f k = record {
  snapshot = k.0;
  newer = tt;
  commit = none_commits n (Begin scope) (Begun m) number refl (subst (λ o. IfSome o (λ c. c ≤ n)) (sym no_number) tt);
}
begin_printed buckets u l scope at _ number n no_at no_number f k = absurd f

pub open_printed : (buckets : ℕ) (u : Unprinted) (l : List LogEntry) (table : TableId) (low high : ℕ) (at : Option ℕ) (a : Answer) (number : Option ℕ) (n : ℕ) → at ≡ None →
    number ≡ None → IsBegun a → UpTo n (own_entries buckets u (CursorOpen table low high) a ++ l) → ArePrinted n (CursorOpen table low high) (reply_with at a number)
open_printed buckets u l table low high at (Begun m) number n no_at no_number f k = record {
  snapshot = k.0;
  newer = tt;
  commit = none_commits n (CursorOpen table low high) (Begun m) number refl (subst (λ o. IfSome o (λ c. c ≤ n)) (sym no_number) tt);
}
open_printed buckets u l table low high at _ number n no_at no_number f k = absurd f

pub fetch_printed : (buckets : ℕ) (u : Unprinted) (l : List LogEntry) (n : ℕ) (at : Option ℕ) (a : Answer) (number : Option ℕ) (m : ℕ) → at ≡ None → number ≡ None →
    IsFetchAnswer buckets n u.rest u.part u.looked a → UpTo m (own_entries buckets u (Fetch n) a ++ l) → ArePrinted m (Fetch n) (reply_with at a number)
fetch_printed buckets u l n at a number m no_at no_number f k =
    let adds = (adds_fetch buckets n u.rest u.part u.looked a l f).known m k in record {
      snapshot = subst (λ o. IfSome o (λ i. i ≤ m)) (sym (access_snapshot a at (fetch_answer buckets n u.rest u.part u.looked a f) ∙ no_at)) tt;
      newer = of_head (λ i. i ≤ m) (newer_in (reply_with at a number)) (access_newer m a adds.1);
      commit = none_commits m (Fetch n) a number refl (subst (λ o. IfSome o (λ i. i ≤ m)) (sym no_number) tt);
    }

pub close_printed : (at : Option ℕ) (a : Answer) (number : Option ℕ) (n : ℕ) → at ≡ None → number ≡ None → IsEnded a → ArePrinted n CursorClose (reply_with at a number)
close_printed at Ended number n no_at no_number f = record {
  snapshot = subst (λ o. IfSome o (λ m. m ≤ n)) (sym no_at) tt;
  newer = tt;
  commit = subst (λ o. IfSome (option_or o None) (λ m. m ≤ n)) (sym no_number) tt;
}
close_printed at _ number n no_at no_number f = absurd f

pub commit_printed : (buckets : ℕ) (u : Unprinted) (l : List LogEntry) (wrote : Bool) (at : Option ℕ) (a : Answer) (number : Option ℕ) (n : ℕ) → at ≡ None → number ≡ None →
    IsCommitted wrote a → UpTo n (own_entries buckets u CommitIt a ++ l) → ArePrinted n CommitIt (reply_with at a number)
commit_printed buckets u l wrote at (Committed c) number n no_at no_number f k = record {
  snapshot = subst (λ o. IfSome o (λ m. m ≤ n)) (sym no_at) tt;
  newer = tt;
  commit = subst (λ o. IfSome (option_or o (Some c)) (λ m. m ≤ n)) (sym no_number) k.0;
}
commit_printed buckets u l wrote at Ended number n no_at no_number f k = record {
  snapshot = subst (λ o. IfSome o (λ m. m ≤ n)) (sym no_at) tt;
  newer = tt;
  commit = subst (λ o. IfSome (option_or o None) (λ m. m ≤ n)) (sym no_number) tt;
}
commit_printed buckets u l wrote at _ number n no_at no_number f k = absurd f

pub rollback_printed : (at : Option ℕ) (a : Answer) (number : Option ℕ) (n : ℕ) → at ≡ None → number ≡ None → IsUndone a → ArePrinted n Rollback (reply_with at a number)
rollback_printed at Undone number n no_at no_number f = record {
  snapshot = subst (λ o. IfSome o (λ m. m ≤ n)) (sym no_at) tt;
  newer = tt;
  commit = subst (λ o. IfSome (option_or o None) (λ m. m ≤ n)) (sym no_number) tt;
}
rollback_printed at _ number n no_at no_number f = absurd f

pub gc_printed : (kind : Kind) (at : Option ℕ) (a : Answer) (number : Option ℕ) (n : ℕ) → at ≡ None → number ≡ None → IsGcAnswer a → ArePrinted n (Gc kind) (reply_with at a number)
gc_printed kind at (Swept sweep) number n no_at no_number f = record {
  snapshot = subst (λ o. IfSome o (λ m. m ≤ n)) (sym no_at) tt;
  newer = tt;
  commit = subst (λ o. IfSome (option_or o None) (λ m. m ≤ n)) (sym no_number) tt;
}
gc_printed kind at Beside number n no_at no_number f = record {
  snapshot = subst (λ o. IfSome o (λ m. m ≤ n)) (sym no_at) tt;
  newer = tt;
  commit = subst (λ o. IfSome (option_or o None) (λ m. m ≤ n)) (sym no_number) tt;
}
gc_printed kind at _ number n no_at no_number f = absurd f

-- a statement that is never a transaction of its own leaves its entries alone
pub inside_entries : (buckets : ℕ) (u : Unprinted) (l : List LogEntry) (s : Statement) (reply : Reply) (n : ℕ) → is_access s ≡ false → UpTo n (log_after buckets u s reply l) →
    UpTo n (own_entries buckets u s reply.answer ++ l)
inside_entries buckets u l s reply n e k = subst (λ b. UpTo n (log_with b buckets u s reply l)) (not_alone (current l) s e) k

pub printed_known : (buckets : ℕ) (u : Unprinted) (l : List LogEntry) (s : Statement) (reply : Reply) (n : ℕ) → Fits buckets u l s reply → UpTo n (log_after buckets u s reply l) → ArePrinted n s reply
printed_known buckets u l (Get r) reply n f k = access_printed buckets u l (Get r) reply.at reply.answer reply.number n (is_alone (current l) (Get r)) refl f.at f.number f.answer k
printed_known buckets u l (Put r row) reply n f k = access_printed buckets u l (Put r row) reply.at reply.answer reply.number n (is_alone (current l) (Put r row)) refl f.at f.number f.answer k
printed_known buckets u l (Del r) reply n f k = access_printed buckets u l (Del r) reply.at reply.answer reply.number n (is_alone (current l) (Del r)) refl f.at f.number f.answer k
printed_known buckets u l (Scan t low high) reply n f k = access_printed buckets u l (Scan t low high) reply.at reply.answer reply.number n
    (is_alone (current l) (Scan t low high)) refl f.at f.number f.answer k
printed_known buckets u l (Begin scope) reply n f k =
    let none = bare buckets u l (Begin scope) reply refl f in
    begin_printed buckets u l scope reply.at reply.answer reply.number n none.0 none.1 f.answer (inside_entries buckets u l (Begin scope) reply n refl k)
printed_known buckets u l (CursorOpen table low high) reply n f k =
    let none = bare buckets u l (CursorOpen table low high) reply refl f in
    open_printed buckets u l table low high reply.at reply.answer reply.number n none.0 none.1 f.answer (inside_entries buckets u l (CursorOpen table low high) reply n refl k)
printed_known buckets u l (Fetch m) reply n f k =
    let none = bare buckets u l (Fetch m) reply refl f in
    fetch_printed buckets u l m reply.at reply.answer reply.number n none.0 none.1 f.answer (inside_entries buckets u l (Fetch m) reply n refl k)
printed_known buckets u l CursorClose reply n f k =
    let none = bare buckets u l CursorClose reply refl f in
    close_printed reply.at reply.answer reply.number n none.0 none.1 f.answer
printed_known buckets u l CommitIt reply n f k =
    let none = bare buckets u l CommitIt reply refl f in
    commit_printed buckets u l (is_written (own_writes l)) reply.at reply.answer reply.number n none.0 none.1 f.answer (inside_entries buckets u l CommitIt reply n refl k)
printed_known buckets u l Rollback reply n f k =
    let none = bare buckets u l Rollback reply refl f in
    rollback_printed reply.at reply.answer reply.number n none.0 none.1 f.answer.0
printed_known buckets u l (Gc kind) reply n f k =
    let none = bare buckets u l (Gc kind) reply refl f in
    gc_printed kind reply.at reply.answer reply.number n none.0 none.1 f.answer
