-- A write that is refused for another's names a write that is open, where the other's transaction has no end in its log.
use Rattle.std.proofs.Common.{◌≡◌, ℕ, List, [], ◌∷◌, Bool, true, false, Option, Some, None, refl, sym, ap, ◌∙◌, subst}
use Rattle.std.specs.Prelude.{◌==◌, if◌then◌else◌, is_some, IsTrue, IsFalse, IsSome, IfSome}
use Rattle.std.proofs.lemmas.Bool.Decides.{Decides-eqb}
use Rattle.hg_base.specs.declared.rid.Rid.{Rid}
use Rattle.hg_base.specs.declared.writer.Writer.{Writer}
use Rattle.hg_base.specs.declared.scope.Snapshot.{Snapshot}
use Rattle.hg_base.specs.declared.statement.Statement.{Statement}
use Rattle.hg_base.specs.declared.statement.Statement.TheVariants.{Put, Del, Gc}
use Rattle.hg_base.specs.declared.line.Answer.{Answer}
use Rattle.hg_base.specs.declared.line.Answer.TheVariants.{OpenBy}
use Rattle.hg_base.specs.declared.line.Reply.{Reply}
use Rattle.hg_base.specs.declared.value.Value.{Value}
use Rattle.hg_base.specs.History.{History, image_in}
use Rattle.hg_base.specs.Transcript.{has}
use Rattle.hg_core.specs.declared.log.LogEntry.{LogEntry}
use Rattle.hg_core.specs.declared.log.LogEntry.TheVariants.{Began, Saw, Refused, Outside, Wrote, Undid, Published, Over}
use Rattle.hg_core.specs.Logs.{current, begans, own_writes, has_end}
use Rattle.hg_core.specs.Judged.{Judged}
use Rattle.hg_core.specs.Replies.{AreReplied, Refuses, writes_in}
use Rattle.hg_core.specs.Reading.{Unprinted, saw, is_alone, log_with, log_after}
use Rattle.hg_core.proofs.Right.{of_some}
use Rattle.hg_core.proofs.Updates.{some_is as some_of_yes}
use Rattle.hg_core.proofs.Remaining.{left_false as or_left, right_false as or_right}
use Rattle.hg_headline.specs.Logged.{Logged}
use Rattle.hg_headline.specs.Met.{IsOpenWrite, IsMetWrite, IsMetAnswer}
use Rattle.hg_headline.specs.Following.{KnowsOpen, IsMetIfGc}
use Rattle.hg_headline.proofs.Words.{true_false}
use Rattle.hg_headline.proofs.Ended.{own_is}
use Rattle.hg_headline.proofs.Prints.{reply_with}

-- a transaction that has a write in a log and no end is the one that is open there
pub still_open : (h : History) (x : ℕ) (r : Rid) (l : List LogEntry) → Judged h l → has_end x l ≡ false → IsSome (image_in r (writes_in x l)) → IsSome (current l) × (begans l ≡ x)
still_open h x r [] d e k = absurd (true_false (sym k))
still_open h x r (Began at scope ∷ l) d e k = absurd (true_false (sym (still_open h x r l d.1 e k).0 ∙ ap is_some d.0.alone))
still_open h x r (Saw t low high b rows ∷ l) d e k = still_open h x r l d.1 e k
still_open h x r (Refused q a ∷ l) d e k = still_open h x r l d.1 e k
still_open h x r (Outside t ∷ l) d e k = still_open h x r l d.1 e k
still_open h x r (Undid q ∷ l) d e k = still_open h x r l d.1 e k
still_open h x r (Wrote q image ∷ l) d e k = go (begans l == x) refl k (λ m. still_open h x r l d.1 e m)
  where
    go : (b : Bool) → (begans l == x) ≡ b → IsSome (image_in r (if b then record { rid = q; image = image } ∷ writes_in x l else writes_in x l)) →
        (IsSome (image_in r (writes_in x l)) → IsSome (current l) × (begans l ≡ x)) → IsSome (current l) × (begans l ≡ x)
    go true same m before = (d.0, (Decides-eqb (begans l) x).0 same)
    go false same m before = before m
still_open h x r (Published n ∷ l) d e k =
    let before = still_open h x r l d.1 (or_right (begans l == x) (has_end x l) e) k in
    absurd (true_false (sym ((Decides-eqb (begans l) x).1 before.1) ∙ or_left (begans l == x) (has_end x l) e))
still_open h x r (Over ∷ l) d e k =
    let before = still_open h x r l d.1 (or_right (begans l == x) (has_end x l) e) k in
    absurd (true_false (sym ((Decides-eqb (begans l) x).1 before.1) ∙ or_left (begans l == x) (has_end x l) e))

pub open_write : (h : History) (logs : ℕ → List LogEntry) (r : Rid) (w : Writer) → Judged h (logs w.session) → has_end w.transaction (logs w.session) ≡ false →
    IsSome (image_in r (writes_in w.transaction (logs w.session))) → IsOpenWrite logs r w
open_write h logs r w d e k =
    let l : List LogEntry = logs w.session in
    let opened = still_open h w.transaction r l d e k in
    let snapshot = some_of_yes (current l) opened.0 in
    let own : own_writes l ≡ writes_in w.transaction l = own_is l snapshot.0 snapshot.1 ∙ ap (λ x. writes_in x l) opened.1 in
    record { opened = opened.0; number = opened.1; does = subst (λ ws. IsSome (image_in r ws)) (sym own) k }

-- ---- what a refused write shows

-- the other's transaction has written the record
abbrev pub DoesWrite : (ℕ → List LogEntry) → Rid → Writer → Type 0
DoesWrite more r w = IsSome (image_in r (writes_in w.transaction (more w.session)))

pub entry_does : (h : History) (more : ℕ → List LogEntry) (j : ℕ) (r : Rid) (w : Writer) (l : List LogEntry) (o : Option Snapshot) (c : Snapshot) → o ≡ Some c →
    IfSome o (λ snapshot. IsTrue (has snapshot.scope r.table) × (IsFalse (is_some (image_in r (own_writes l))) × Refuses h more j snapshot.at r (OpenBy w))) → DoesWrite more r w
entry_does h more j r w l o c e g = (of_some o (λ snapshot. IsTrue (has snapshot.scope r.table) ×
    (IsFalse (is_some (image_in r (own_writes l))) × Refuses h more j snapshot.at r (OpenBy w))) c e g).1.1.does

pub put_does : (buckets : ℕ) (h : History) (more : ℕ → List LogEntry) (j : ℕ) (u : Unprinted) (r : Rid) (row : List Value) (at number : Option ℕ) (w : Writer) (l : List LogEntry)
    (o : Option Snapshot) → current l ≡ o → AreReplied buckets h more j (log_with (is_alone o (Put r row)) buckets u (Put r row) (reply_with at (OpenBy w) number) l) → DoesWrite more r w
put_does buckets h more j u r row at number w l (Some c) e g = entry_does h more j r w l (current l) c e g.0
put_does buckets h more j u r row at None w l None e g = g.1.0.1.1.does
put_does buckets h more j u r row at (Some n) w l None e g = g.1.1.0.1.1.does

pub del_does : (buckets : ℕ) (h : History) (more : ℕ → List LogEntry) (j : ℕ) (u : Unprinted) (r : Rid) (at number : Option ℕ) (w : Writer) (l : List LogEntry)
    (o : Option Snapshot) → current l ≡ o → AreReplied buckets h more j (log_with (is_alone o (Del r)) buckets u (Del r) (reply_with at (OpenBy w) number) l) → DoesWrite more r w
del_does buckets h more j u r at number w l (Some c) e g = entry_does h more j r w (saw buckets r ((r.key, u.found) ∷ []) ∷ l) (current l) c e g.0
del_does buckets h more j u r at None w l None e g = g.1.0.1.1.does
del_does buckets h more j u r at (Some n) w l None e g = g.1.1.0.1.1.does

-- ---- the answer of a replay

-- from the logs of all sessions, where a history is known
pub knows_open : (buckets : ℕ) (h : History) (logs more : ℕ → List LogEntry) (j : ℕ) (after : List LogEntry) (w : Writer) → Logged buckets h more → more j ≡ after →
    more w.session ≡ logs w.session → has_end w.transaction (logs w.session) ≡ false → KnowsOpen buckets logs j after w
knows_open buckets h logs more j after w g here there goes = record {
  history = h;
  more = more;
  here = here;
  there = there;
  replied = g.replied j;
  judged = subst (Judged h) there (g.judged w.session);
  goes = goes;
}

pub write_met : (logs : ℕ → List LogEntry) (r : Rid) (a : Answer) → ((w : Writer) → a ≡ OpenBy w → IsOpenWrite logs r w) → IsMetWrite logs r a
write_met logs r (OpenBy w) f = f w refl
write_met logs r _ f = tt

-- the other's write is open in the logs before the statement
pub known_open : (buckets : ℕ) (logs : ℕ → List LogEntry) (j : ℕ) (u : Unprinted) (s : Statement) (reply : Reply) (r : Rid) (w : Writer) → reply.answer ≡ OpenBy w →
    (k : KnowsOpen buckets logs j (log_after buckets u s reply (logs j)) w) →
    (AreReplied buckets k.history k.more j (log_with (is_alone (current (logs j)) s) buckets u s (reply_with reply.at (OpenBy w) reply.number) (logs j)) → DoesWrite k.more r w) → IsOpenWrite logs r w
known_open buckets logs j u s reply r w e k does =
    let l : List LogEntry = logs j in
    let after : AreReplied buckets k.history k.more j (log_after buckets u s reply l) = subst (AreReplied buckets k.history k.more j) k.here k.replied in
    let told = subst (λ a. AreReplied buckets k.history k.more j (log_with (is_alone (current l) s) buckets u s (reply_with reply.at a reply.number) l)) e after in
    open_write k.history logs r w k.judged k.goes (subst (λ m. IsSome (image_in r (writes_in w.transaction m))) k.there (does told))

-- A statement of session j is answered as a replay may, if what is known of the other's transaction where a write is refused for
-- one shows that it goes on.
pub met_answer : (buckets sessions : ℕ) (logs : ℕ → List LogEntry) (j : ℕ) (u : Unprinted) (s : Statement) (reply : Reply) → IsMetIfGc sessions logs s reply.answer →
    ((w : Writer) → reply.answer ≡ OpenBy w → KnowsOpen buckets logs j (log_after buckets u s reply (logs j)) w) → IsMetAnswer sessions logs s reply.answer
met_answer buckets sessions logs j u (Put r row) reply gc knows = write_met logs r reply.answer (λ w e. let k = knows w e in
    known_open buckets logs j u (Put r row) reply r w e k (put_does buckets k.history k.more j u r row reply.at reply.number w (logs j) (current (logs j)) refl))
met_answer buckets sessions logs j u (Del r) reply gc knows = write_met logs r reply.answer (λ w e. let k = knows w e in
    known_open buckets logs j u (Del r) reply r w e k (del_does buckets k.history k.more j u r reply.at reply.number w (logs j) (current (logs j)) refl))
met_answer buckets sessions logs j u (Gc kind) reply gc knows = gc
met_answer buckets sessions logs j u _ reply gc knows = tt
