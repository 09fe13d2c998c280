-- The lines that end a transaction are right: a commit, a rollback, and the close of a cursor.
use Rattle.std.proofs.Common.{◌≡◌, ℕ, ◌≤◌, List, [], ◌∷◌, ◌++◌, length, map, true, false, Option, Some, None, refl, sym, ap, ◌∙◌, subst}
use Rattle.std.specs.Prelude.{IsSome, is_some}
use Rattle.hg_base.specs.declared.rid.Rid.{Rid}
use Rattle.hg_base.specs.declared.scope.Snapshot.{Snapshot}
use Rattle.hg_base.specs.declared.statement.Statement.TheVariants.{Commit as CommitIt, Rollback, CursorClose}
use Rattle.hg_base.specs.declared.line.Answer.{Answer}
use Rattle.hg_base.specs.declared.line.Answer.TheVariants.{Stored, Committed, Ended, Undone}
use Rattle.hg_base.specs.Script.{Mode}
use Rattle.hg_base.specs.History.{History}
use Rattle.hg_base.specs.Transcript.{Said, last_of, next_after, standing, committed}
use Rattle.hg_base.specs.Replies.{IsCommitted, IsUndone, is_written, IsEnded}
use Rattle.hg_core.specs.declared.log.LogEntry.{LogEntry}
use Rattle.hg_core.specs.declared.log.LogEntry.TheVariants.{Undid, Published, Over}
use Rattle.hg_core.specs.Logs.{current, begans, own_writes}
use Rattle.hg_core.specs.Judged.{Judged}
use Rattle.hg_core.specs.Reading.{Unprinted, commit_entries}
use Rattle.hg_headline.proofs.Ties.{Ties, StandsIn, ties_step}
use Rattle.hg_headline.proofs.Adds.{adds_nothing}
use Rattle.hg_headline.proofs.Entries.{reply_of, record_of, says_end, stands_end}
use Rattle.hg_headline.proofs.Entries.{adds_undone}
use Rattle.hg_headline.proofs.LineParts.{Right, none_or, rising_none, append_judged, judged_snapshot, inside_own}

pub commit_judged : (h : History) (a : Answer) (l : List LogEntry) → Judged h (commit_entries a ++ l) → IsSome (current l) × Judged h l
commit_judged h (Committed n) l d = (d.0.opened, d.1.1)
commit_judged h _ l d = (d.0.opened, d.1)

-- below the undone writes the transaction is the same
pub undone_current : (rids : List Rid) (l : List LogEntry) → current (map Undid rids ++ l) ≡ current l
undone_current [] l = refl
undone_current (r ∷ rids) l = undone_current rids l

pub undone_judged : (h : History) (rids : List Rid) (l : List LogEntry) → Judged h (Over ∷ (map Undid rids ++ l)) → IsSome (current l) × Judged h l
undone_judged h rids l d = (subst IsSome (undone_current rids l) d.0.opened, append_judged h (map Undid rids) l d.1)

pub inside_small : (h k : History) (l : List LogEntry) (c : Snapshot) (at : ℕ) → length h ≡ length k → at ≡ c.at → Judged h l → current l ≡ Some c → at ≤ length k
inside_small h k l c at count e d q = subst (λ n. n ≤ length k) (sym e) (subst (λ n. c.at ≤ n) count (judged_snapshot h l c d q))

pub commit_line : (mode : Mode) (h k : History) (logs : ℕ → List LogEntry) (all earlier : List Said) (l : List LogEntry) (place j : ℕ) (at : Option ℕ) (a : Answer)
    (number : Option ℕ) → Ties j earlier l → at ≡ None → number ≡ None → IsCommitted (is_written (own_writes l)) a → Judged h l →
    (o : Option Said) (c : Option Snapshot) → current l ≡ c → StandsIn o c (begans l) → IsSome c →
    Right h logs mode k all earlier (standing o (next_after (last_of j earlier)) (record_of place j CommitIt) (reply_of at a number)) j (commit_entries a ++ l)
commit_line mode h k logs all earlier l place j at a number ties no_at no_number f d None None q st is = absurd (let z : false ≡ true = is in cc)
commit_line mode h k logs all earlier l place j at a number ties no_at no_number f d (Some opened) None q st is = absurd st
commit_line mode h k logs all earlier l place j at a number ties no_at no_number f d None (Some c) q st is = absurd st
commit_line mode h k logs all earlier l place j at (Committed n) number ties no_at no_number f d (Some opened) (Some c) q st is =
    let now : Said = standing (Some opened) (next_after (last_of j earlier)) (record_of place j CommitIt) (reply_of at (Committed n) number) in
    record {
      ties = ties_step j earlier now l (Over ∷ Published n ∷ l) ties
          (says_end opened (next_after (last_of j earlier)) l l c place j CommitIt at (Committed n) number (Some n) refl no_at refl refl (adds_nothing l Stored tt) q st)
          (stands_end opened (next_after (last_of j earlier)) l l c place j CommitIt (reply_of at (Committed n) number) (Some n) refl (adds_nothing l Stored tt) q st);
      reply = λ t. record {
        at = ap is_some no_at;
        number = ap is_some no_number;
        snapshot = inside_small h k l c opened.at t.count st.1.0 d q;
        answer = ap is_written (inside_own j earlier l c now ties refl st.0 q) ∙ f;
      };
      conflict = λ t still. tt;
      rising = rising_none earlier now no_at;
      commit = none_or number (committed now) no_number;
    }
commit_line mode h k logs all earlier l place j at Ended number ties no_at no_number f d (Some opened) (Some c) q st is =
    let now : Said = standing (Some opened) (next_after (last_of j earlier)) (record_of place j CommitIt) (reply_of at Ended number) in
    record {
      ties = ties_step j earlier now l (Over ∷ l) ties
          (says_end opened (next_after (last_of j earlier)) l l c place j CommitIt at Ended number None refl no_at refl refl (adds_nothing l Stored tt) q st)
          (stands_end opened (next_after (last_of j earlier)) l l c place j CommitIt (reply_of at Ended number) None refl (adds_nothing l Stored tt) q st);
      reply = λ t. record {
        at = ap is_some no_at;
        number = ap is_some no_number;
        snapshot = inside_small h k l c opened.at t.count st.1.0 d q;
        answer = ap is_written (inside_own j earlier l c now ties refl st.0 q) ∙ f;
      };
      conflict = λ t still. tt;
      rising = rising_none earlier now no_at;
      commit = none_or number (committed now) no_number;
    }
commit_line mode h k logs all earlier l place j at _ number ties no_at no_number f d (Some opened) (Some c) q st is = absurd f

pub rollback_line : (mode : Mode) (h k : History) (logs : ℕ → List LogEntry) (all earlier : List Said) (u : Unprinted) (l : List LogEntry) (place j : ℕ) (at : Option ℕ)
    (a : Answer) (number : Option ℕ) → Ties j earlier l → at ≡ None → number ≡ None → IsUndone a → Judged h l →
    (o : Option Said) (c : Option Snapshot) → current l ≡ c → StandsIn o c (begans l) → IsSome c →
    Right h logs mode k all earlier (standing o (next_after (last_of j earlier)) (record_of place j Rollback) (reply_of at a number)) j (Over ∷ (map Undid u.undone ++ l))
rollback_line mode h k logs all earlier u l place j at a number ties no_at no_number f d None None q st is = absurd (let z : false ≡ true = is in cc)
rollback_line mode h k logs all earlier u l place j at a number ties no_at no_number f d (Some opened) None q st is = absurd st
rollback_line mode h k logs all earlier u l place j at a number ties no_at no_number f d None (Some c) q st is = absurd st
rollback_line mode h k logs all earlier u l place j at Undone number ties no_at no_number f d (Some opened) (Some c) q st is =
    let now : Said = standing (Some opened) (next_after (last_of j earlier)) (record_of place j Rollback) (reply_of at Undone number) in
    record {
      ties = ties_step j earlier now l (Over ∷ (map Undid u.undone ++ l)) ties
          (says_end opened (next_after (last_of j earlier)) l (map Undid u.undone ++ l) c place j Rollback at Undone number None refl no_at refl refl (adds_undone u.undone l) q st)
          (stands_end opened (next_after (last_of j earlier)) l (map Undid u.undone ++ l) c place j Rollback (reply_of at Undone number) None refl (adds_undone u.undone l) q st);
      reply = λ t. record { at = ap is_some no_at; number = ap is_some no_number; snapshot = inside_small h k l c opened.at t.count st.1.0 d q; answer = tt };
      conflict = λ t still. tt;
      rising = rising_none earlier now no_at;
      commit = none_or number (committed now) no_number;
    }
rollback_line mode h k logs all earlier u l place j at _ number ties no_at no_number f d (Some opened) (Some c) q st is = absurd f

pub close_line : (mode : Mode) (h k : History) (logs : ℕ → List LogEntry) (all earlier : List Said) (l : List LogEntry) (place j : ℕ) (at : Option ℕ) (a : Answer)
    (number : Option ℕ) → Ties j earlier l → at ≡ None → number ≡ None → IsEnded a → Judged h l →
    (o : Option Said) (c : Option Snapshot) → current l ≡ c → StandsIn o c (begans l) → IsSome c →
    Right h logs mode k all earlier (standing o (next_after (last_of j earlier)) (record_of place j CursorClose) (reply_of at a number)) j (Over ∷ l)
close_line mode h k logs all earlier l place j at a number ties no_at no_number f d None None q st is = absurd (let z : false ≡ true = is in cc)
close_line mode h k logs all earlier l place j at a number ties no_at no_number f d (Some opened) None q st is = absurd st
close_line mode h k logs all earlier l place j at a number ties no_at no_number f d None (Some c) q st is = absurd st
close_line mode h k logs all earlier l place j at Ended number ties no_at no_number f d (Some opened) (Some c) q st is =
    let now : Said = standing (Some opened) (next_after (last_of j earlier)) (record_of place j CursorClose) (reply_of at Ended number) in
    record {
      ties = ties_step j earlier now l (Over ∷ l) ties
          (says_end opened (next_after (last_of j earlier)) l l c place j CursorClose at Ended number None refl no_at refl refl (adds_nothing l Stored tt) q st)
          (stands_end opened (next_after (last_of j earlier)) l l c place j CursorClose (reply_of at Ended number) None refl (adds_nothing l Stored tt) q st);
      reply = λ t. record { at = ap is_some no_at; number = ap is_some no_number; snapshot = inside_small h k l c opened.at t.count st.1.0 d q; answer = tt };
      conflict = λ t still. tt;
      rising = rising_none earlier now no_at;
      commit = none_or number (committed now) no_number;
    }
close_line mode h k logs all earlier l place j at _ number ties no_at no_number f d (Some opened) (Some c) q st is = absurd f
