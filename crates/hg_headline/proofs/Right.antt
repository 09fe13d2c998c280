-- A line is right in the printed history where its entries are right over the history of the logs.
use Rattle.std.proofs.Common.{◌≡◌, ℕ, ◌<◌, ◌≤◌, List, ◌++◌, length, Some, sym, ap, ◌∙◌, subst}
use Rattle.std.specs.Prelude.{◌==◌, IsFalse, IsSome, IfSome, is_some, unwrap_or, ⊤}
use Rattle.hg_base.specs.declared.rid.Rid.{Rid}
use Rattle.hg_base.specs.declared.scope.Snapshot.{Snapshot}
use Rattle.hg_base.specs.declared.writer.Writer.{Writer}
use Rattle.hg_base.specs.declared.statement.Statement.{Statement}
use Rattle.hg_base.specs.declared.statement.Statement.TheVariants.{Put, Del}
use Rattle.hg_base.specs.declared.line.Answer.{Answer}
use Rattle.hg_base.specs.declared.line.Answer.TheVariants.{Newer, OpenBy}
use Rattle.hg_base.specs.declared.value.Value.{Value}
use Rattle.hg_base.specs.Lists.{Each}
use Rattle.hg_base.specs.Script.{Mode}
use Rattle.hg_base.specs.History.{Write, History, visible, does_write, image_in, seen}
use Rattle.hg_base.specs.Transcript.{Said, stored_in}
use Rattle.hg_base.specs.Transcript.{own_writes as own_before, numbers_in as printed_numbers}
use Rattle.hg_base.specs.Conflicts.{ShowsCause, IsStillOpen, OnReplay, target}
use Rattle.hg_core.specs.declared.log.LogEntry.{LogEntry}
use Rattle.hg_core.specs.Logs.{current, own_writes}
use Rattle.hg_core.specs.Replies.{writes_in, numbers_in, Refuses, AreReplied}
use Rattle.hg_core.specs.Reading.{Unprinted, put_entries, del_entries, own_entries}
use Rattle.hg_core.proofs.Right.{of_some}

-- what the lines show of the history and the logs
pub record Reads (h : History) (k : History) (logs : ℕ → List LogEntry) (all : List Said) : Type 0 where
  pub count : length h ≡ length k
  pub sees : (r : Rid) (s : ℕ) → visible h r s ≡ visible k r s
  pub does : (n : ℕ) (r : Rid) → does_write h n r ≡ does_write k n r
  pub stored : (w : Writer) (r : Rid) → IsSome (image_in r (writes_in w.transaction (logs w.session))) → IsSome (image_in r (stored_in w.session w.transaction all))
  pub late : (w : Writer) (s : ℕ) → Each (λ c. s < c) (numbers_in w.transaction (logs w.session)) → Each (λ c. s < c) (printed_numbers w.session w.transaction all)

-- the write that a refusal shows is open there
abbrev pub StillIn : List Said → Rid → Answer → Type 0
StillIn earlier r (OpenBy w) = IsStillOpen earlier r w
StillIn earlier r _ = ⊤

-- ---- one key of a bucket

-- ---- get, put and del

-- ---- scan

-- ---- any of them

-- ---- conflicts

pub cause_right : (mode : Mode) (h k : History) (logs : ℕ → List LogEntry) (all earlier : List Said) (now : Said) (j s : ℕ) (own : List Write) (r : Rid) (a : Answer) →
    Reads h k logs all → now.session ≡ j → now.at ≡ s → own_before earlier now ≡ own → OnReplay mode (StillIn earlier r a) → IsFalse (is_some (image_in r own)) ×
    Refuses h logs j s r a → ShowsCause mode k all earlier now r a
cause_right mode h k logs all earlier now j s own r (Newer c) t mine at same still (none, f) = (
  ap (λ ws. is_some (image_in r ws)) same ∙ none,
  record {
    over = subst (λ n. n < c) (sym at) f.over;
    within = subst (λ n. c ≤ n) t.count f.within;
    does = sym (t.does c r) ∙ f.does;
  },
)
cause_right mode h k logs all earlier now j s own r (OpenBy w) t mine at same still (none, f) = (
  ap (λ ws. is_some (image_in r ws)) same ∙ none,
  record {
    other = ap (λ n. w.session == n) mine ∙ f.other;
    does = t.stored w r f.does;
    after = subst (λ n. Each (λ c. n < c) (printed_numbers w.session w.transaction all)) (sym at) (t.late w s f.after);
  },
  still,
)
cause_right mode h k logs all earlier now j s own r _ t mine at same still (none, f) = absurd f

pub put_shown : (mode : Mode) (buckets : ℕ) (h k : History) (logs : ℕ → List LogEntry) (all earlier : List Said) (now : Said) (j : ℕ) (r : Rid) (row : List Value) (a : Answer)
    (l : List LogEntry) (c : Snapshot) → Reads h k logs all → now.session ≡ j → now.at ≡ c.at → own_before earlier now ≡ own_writes l → OnReplay mode (StillIn earlier r a) →
    current l ≡ Some c → AreReplied buckets h logs j (put_entries r row a ++ l) → ShowsCause mode k all earlier now r a
put_shown mode buckets h k logs all earlier now j r row (Newer n) l c t mine at same still e g = cause_right mode h k logs all earlier now j c.at (own_writes l) r
    (Newer n) t mine at same still (of_some (current l) _ c e g.0).1
put_shown mode buckets h k logs all earlier now j r row (OpenBy w) l c t mine at same still e g = cause_right mode h k logs all earlier now j c.at (own_writes l) r
    (OpenBy w) t mine at same still (of_some (current l) _ c e g.0).1
put_shown mode buckets h k logs all earlier now j r row _ l c t mine at same still e g = tt

pub del_shown : (mode : Mode) (buckets : ℕ) (h k : History) (logs : ℕ → List LogEntry) (all earlier : List Said) (now : Said) (j : ℕ) (found : List Value) (r : Rid) (a : Answer)
    (l : List LogEntry) (c : Snapshot) → Reads h k logs all → now.session ≡ j → now.at ≡ c.at → own_before earlier now ≡ own_writes l → OnReplay mode (StillIn earlier r a) →
    current l ≡ Some c → AreReplied buckets h logs j (del_entries buckets found r a ++ l) → ShowsCause mode k all earlier now r a
del_shown mode buckets h k logs all earlier now j found r (Newer n) l c t mine at same still e g = cause_right mode h k logs all earlier now j c.at (own_writes l) r
    (Newer n) t mine at same still (of_some (current l) _ c e g.0).1
del_shown mode buckets h k logs all earlier now j found r (OpenBy w) l c t mine at same still e g = cause_right mode h k logs all earlier now j c.at (own_writes l) r
    (OpenBy w) t mine at same still (of_some (current l) _ c e g.0).1
del_shown mode buckets h k logs all earlier now j found r _ l c t mine at same still e g = tt

pub conflict_right : (mode : Mode) (buckets : ℕ) (h k : History) (logs : ℕ → List LogEntry) (all earlier : List Said) (now : Said) (u : Unprinted) (j : ℕ) (s : Statement)
    (l : List LogEntry) (c : Snapshot) → Reads h k logs all → now.session ≡ j → now.at ≡ c.at → own_before earlier now ≡ own_writes l →
    IfSome (target s) (λ r. OnReplay mode (StillIn earlier r now.reply.answer)) → current l ≡ Some c → AreReplied buckets h logs j (own_entries buckets u s now.reply.answer ++ l) →
    IfSome (target s) (λ r. ShowsCause mode k all earlier now r now.reply.answer)
conflict_right mode buckets h k logs all earlier now u j (Put r row) l c t mine at same still e g = put_shown mode buckets h k logs all earlier now j r row now.reply.answer l c t
    mine at same still e g
conflict_right mode buckets h k logs all earlier now u j (Del r) l c t mine at same still e g = del_shown mode buckets h k logs all earlier now j u.found r now.reply.answer l c t
    mine at same still e g
conflict_right mode buckets h k logs all earlier now u j _ l c t mine at same still e g = tt

-- what the transaction sees by its log it sees by its lines
pub seen_is : (h k : History) (logs : ℕ → List LogEntry) (all earlier : List Said) (now : Said) (own : List Write) (s : ℕ) → Reads h k logs all → now.at ≡ s →
    own_before earlier now ≡ own → seen h own s ≡ seen k (own_before earlier now) now.at
seen_is h k logs all earlier now own s t at same = λ i r. unwrap_or (image_in r (sym same i)) ((t.sees r s ∙ ap (visible k r) (sym at)) i)
