-- What it is that a line is right, and what holds of every kind of line.
use Rattle.std.proofs.Common.{◌≡◌, ℕ, suc, ◌<◌, ◌≤◌, List, [], ◌∷◌, ◌++◌, length, Option, Some, None, refl, sym, ap, ◌∙◌, subst, arith}
use Rattle.std.specs.Prelude.{IfSome, ⊤}
use Rattle.std.specs.Option.{option_or}
use Rattle.hg_base.specs.declared.scope.Snapshot.{Snapshot}
use Rattle.hg_base.specs.declared.statement.Statement.{Statement}
use Rattle.hg_base.specs.declared.statement.Statement.TheVariants.{Gc}
use Rattle.hg_base.specs.declared.line.Answer.{Answer}
use Rattle.hg_base.specs.Lists.{Each}
use Rattle.hg_base.specs.Script.{Mode}
use Rattle.hg_base.specs.History.{History}
use Rattle.hg_base.specs.Transcript.{Said, stored_in, committed}
use Rattle.hg_base.specs.Transcript.{own_writes as own_before}
use Rattle.hg_base.specs.Replies.{IsReply, IsCollected}
use Rattle.hg_base.specs.Conflicts.{ShowsConflict, OnReplay, target}
use Rattle.hg_base.specs.Freshness.{snapshot_of, known}
use Rattle.hg_core.specs.declared.log.LogEntry.{LogEntry}
use Rattle.hg_core.specs.declared.log.LogEntry.TheVariants.{Began, Saw, Refused, Outside, Wrote, Undid, Published, Over}
use Rattle.hg_core.specs.Logs.{current, begans, own_writes, UpTo}
use Rattle.hg_core.specs.Judged.{Judged}
use Rattle.hg_core.specs.Replies.{AreReplied}
use Rattle.hg_core.specs.Reading.{close}
use Rattle.hg_headline.specs.Timely.{commit_in}
use Rattle.hg_headline.proofs.Words.{none_is_not_some, some_is_some}
use Rattle.hg_headline.proofs.Ties.{Ties}
use Rattle.hg_headline.proofs.Ended.{own_is}
use Rattle.hg_headline.proofs.Right.{Reads, StillIn}

-- the snapshot of a line is at least what the session's lines before it print
abbrev pub IsRising : List Said → Said → Type 0
IsRising earlier now = IfSome (snapshot_of now) (λ s. Each (λ n. n ≤ s) (known now.session earlier))

-- the write that a refusal shows is open there, in a replay
abbrev pub IsStill : Mode → List Said → Said → Type 0
IsStill mode earlier now = IfSome (target now.statement) (λ r. OnReplay mode (StillIn earlier r now.reply.answer))

-- a `gc` is answered as the command has it
abbrev pub AsCollected : Mode → ℕ → Statement → Answer → Type 0
AsCollected mode j (Gc kind) answer = IsCollected mode j answer
AsCollected mode j _ answer = ⊤

-- Of one line: its session's log goes on; and it is right, once all lines are known to show the history and the logs.
pub record Right (h : History) (logs : ℕ → List LogEntry) (mode : Mode) (k : History) (all : List Said) (earlier : List Said) (now : Said) (j : ℕ) (after : List LogEntry) : Type 0 where
  pub ties : Ties j (now ∷ earlier) after
  pub reply : Reads h k logs all → IsReply mode k earlier now
  pub conflict : Reads h k logs all → IsStill mode earlier now → ShowsConflict mode k all earlier now
  pub rising : IsRising earlier now
  pub commit : committed now ≡ commit_in now.statement now.reply

pub or_none : (o : Option ℕ) → o ≡ option_or o None
or_none None = refl
or_none (Some c) = refl

-- what stands before a number that is not there
pub none_or : (o p : Option ℕ) → o ≡ None → p ≡ option_or o p
none_or o p e = sym (ap (λ q. option_or q p) e)

pub rising_none : (earlier : List Said) (now : Said) → snapshot_of now ≡ None → IsRising earlier now
rising_none earlier now e = subst (λ o. IfSome o (λ s. Each (λ n. n ≤ s) (known now.session earlier))) (sym e) tt

pub rising_some : (j : ℕ) (earlier : List Said) (l : List LogEntry) (now : Said) (s : ℕ) → Ties j earlier l → now.session ≡ j → snapshot_of now ≡ Some s → UpTo s l → IsRising earlier now
rising_some j earlier l now s t mine e h = subst (λ o. IfSome o (λ m. Each (λ n. n ≤ m) (known now.session earlier))) (sym e)
    (subst (λ i. Each (λ n. n ≤ s) (known i earlier)) (sym mine) (t.known s h))

-- ---- what was judged of a log was judged of its beginning

pub close_judged : (h : History) (o : Option ℕ) (l : List LogEntry) → Judged h (close o ++ l) → Judged h l
close_judged h None l d = d.1
close_judged h (Some c) l d = d.1.1

pub append_judged : (h : History) (es l : List LogEntry) → Judged h (es ++ l) → Judged h l
append_judged h [] l d = d
append_judged h (e ∷ es) l d = append_judged h es l d.1

pub close_replied : (buckets : ℕ) (h : History) (logs : ℕ → List LogEntry) (j : ℕ) (o : Option ℕ) (l : List LogEntry) → AreReplied buckets h logs j (close o ++ l) → AreReplied buckets h logs j l
close_replied buckets h logs j None l g = g.1
close_replied buckets h logs j (Some c) l g = g.1.1

-- a snapshot is at or below the number of groups
pub judged_snapshot : (h : History) (l : List LogEntry) (c : Snapshot) → Judged h l → current l ≡ Some c → c.at ≤ length h
judged_snapshot h [] c d e = absurd (none_is_not_some c e)
judged_snapshot h (Began at scope ∷ l) c d e = subst (λ (x : Snapshot). x.at ≤ length h) (some_is_some (record { at = at; scope = scope }) c e) d.0.within
judged_snapshot h (Saw t low high b rows ∷ l) c d e = judged_snapshot h l c d.1 e
judged_snapshot h (Refused r a ∷ l) c d e = judged_snapshot h l c d.1 e
judged_snapshot h (Outside t ∷ l) c d e = judged_snapshot h l c d.1 e
judged_snapshot h (Wrote r image ∷ l) c d e = judged_snapshot h l c d.1 e
judged_snapshot h (Undid r ∷ l) c d e = judged_snapshot h l c d.1 e
judged_snapshot h (Published n ∷ l) c d e = judged_snapshot h l c d.1 e
judged_snapshot h (Over ∷ l) c d e = absurd (none_is_not_some c e)

-- ---- get, put, del and scan

pub inside_own : (j : ℕ) (earlier : List Said) (l : List LogEntry) (c : Snapshot) (now : Said) → Ties j earlier l → now.session ≡ j → now.transaction ≡ begans l →
    current l ≡ Some c → own_before earlier now ≡ own_writes l
inside_own j earlier l c now t mine tr cur = (λ i. stored_in (mine i) (tr i) earlier) ∙ t.own (begans l) ∙ sym (own_is l c cur)

pub above : (m i : ℕ) → m ≡ suc i → i < m
above m i z = omega (arith, z)
