-- What is known after a record, and what a get, put, del or scan prints.
use Rattle.std.proofs.Common.{◌≡◌, ◌+◌, ℕ, ◌<◌, ◌≤◌, List, length, true, false, Option, Some, None, refl, ap, ◌∙◌, arith}
use Rattle.std.specs.Prelude.{IsTrue, ⊤}
use Rattle.hg_base.specs.declared.scope.Snapshot.{Snapshot}
use Rattle.hg_base.specs.declared.statement.Record.{Record}
use Rattle.hg_base.specs.declared.statement.Statement.{Statement}
use Rattle.hg_base.specs.declared.statement.Statement.TheVariants.{Get, Put, Del, Scan}
use Rattle.hg_base.specs.declared.line.Answer.{Answer}
use Rattle.hg_base.specs.declared.line.Answer.TheVariants.{Begun, Newer, OpenBy, Swept}
use Rattle.hg_base.specs.declared.line.Reply.{Reply}
use Rattle.hg_base.specs.declared.line.Line.{Line}
use Rattle.hg_base.specs.History.{Write, History}
use Rattle.hg_base.specs.Transcript.{Rest}
use Rattle.hg_core.specs.declared.log.LogEntry.{LogEntry}
use Rattle.hg_core.specs.Logs.{current, begans, own_writes, is_plain}
use Rattle.hg_core.specs.Events.{put}
use Rattle.hg_core.specs.Reading.{Unprinted, is_access, FitsAnswer, FitsIn, HasRest}
use Rattle.hg_core.proofs.Indices.{put_here, put_else}
use Rattle.hg_headline.specs.Met.{IsMetAnswer}
use Rattle.hg_headline.specs.Replayed.{HasReplayed}
use Rattle.hg_headline.specs.Answered.{MayAnswer, HasGone}
use Rattle.hg_headline.specs.Counted.{made_in, undone_in}

-- the line of a record
abbrev pub line_for : Record → Reply → Line
line_for r reply = record { session = r.session; place = r.place; reply = reply }

-- replies in a transaction, and of a statement that is one of its own
abbrev pub inside : Answer → Reply
inside answer = record { at = None; answer = answer; number = None }

abbrev pub alone : ℕ → Answer → Option ℕ → Reply
alone at answer number = record { at = Some at; answer = answer; number = number }

-- what is known after a record: of the lines, of the log of its session, and how many versions more were made and taken back
pub record Next (buckets sessions : ℕ) (h : History) (logs : ℕ → List LogEntry) (records : List Record) (lines : List Line) (j : ℕ) (open_one : Option Snapshot) (count : ℕ)
    (own : List Write) (adds : ℕ) (takes : ℕ) : Type 0 where
  pub more : ℕ → List LogEntry
  pub replayed : HasReplayed buckets sessions h more (length h) records lines
  pub gone : HasGone logs more j open_one count own
  pub made : made_in sessions more ≡ made_in sessions logs + adds
  pub undone : undone_in sessions more ≡ undone_in sessions logs + takes

-- a record of a session that there is
pub record IsAsked (sessions : ℕ) (r : Record) : Type 0 where
  pub some : 1 ≤ r.session
  pub most : r.session ≤ sessions

pub gone_put : (logs : ℕ → List LogEntry) (j : ℕ) (l : List LogEntry) (o : Option Snapshot) (count : ℕ) (own : List Write) → current l ≡ o → begans l ≡ count → own_writes l ≡ own →
    is_plain l ≡ true → HasGone logs (put logs j l) j o count own
gone_put logs j l o count own e f g p =
    let here : put logs j l j ≡ l = put_here logs j l in
    record { others = λ k z. put_else logs j k l z; opened = ap current here ∙ e; begun = ap begans here ∙ f; writes = ap own_writes here ∙ g; plain = ap is_plain here ∙ p }

-- ---- get, put, del and scan

pub answered_access : (h : History) (logs : ℕ → List LogEntry) (j : ℕ) (c : Snapshot) (own : List Write) (s : Statement) (a : Answer) → MayAnswer h logs j c own s a → IsTrue (is_access s)
answered_access h logs j c own (Get r) a m = refl
answered_access h logs j c own (Put r row) a m = refl
answered_access h logs j c own (Del r) a m = refl
answered_access h logs j c own (Scan t low high) a m = refl
answered_access h logs j c own _ a m = absurd m

-- a refusal shows what is open there
pub answered_met : (sessions : ℕ) (h : History) (logs : ℕ → List LogEntry) (j : ℕ) (c : Snapshot) (own : List Write) (s : Statement) (a : Answer) → MayAnswer h logs j c own s a →
    IsMetAnswer sessions logs s a
answered_met sessions h logs j c own (Get r) a m = tt
answered_met sessions h logs j c own (Put r row) (OpenBy w) m = m.1.3
answered_met sessions h logs j c own (Put r row) _ m = tt
answered_met sessions h logs j c own (Del r) (OpenBy w) m = m.1.3
answered_met sessions h logs j c own (Del r) _ m = tt
answered_met sessions h logs j c own (Scan t low high) a m = tt
answered_met sessions h logs j c own _ a m = absurd m

-- the numbers that such an answer prints: of a newer commit, over the snapshot and at or below the mark
abbrev pub IsSmall : ℕ → Answer → Type 0
IsSmall top (Newer n) = (0 < n) × (n ≤ top)
IsSmall top (Begun n) = ⊥
IsSmall top (Swept sweep) = ⊥
IsSmall top _ = ⊤

pub newer_small : (h : History) (at n : ℕ) → at < n → n ≤ length h → (0 < n) × (n ≤ length h)
newer_small h at n a b = (omega (arith, a), b)

-- a read or a write is no fetch
pub access_in : (o : Option Snapshot) (s : Statement) → IsTrue (is_access s) → FitsIn o s
access_in o (Get r) e = tt
access_in o (Put r row) e = tt
access_in o (Del r) e = tt
access_in o (Scan t low high) e = tt
access_in o _ e = absurd (let z : false ≡ true = e in cc)

pub access_rest : (s : Statement) (rest left : Option Rest) → IsTrue (is_access s) → HasRest s rest left
access_rest (Get r) rest left e = tt
access_rest (Put r row) rest left e = tt
access_rest (Del r) rest left e = tt
access_rest (Scan t low high) rest left e = tt
access_rest _ rest left e = absurd (let z : false ≡ true = e in cc)

pub fits_small : (buckets : ℕ) (u : Unprinted) (own : List Write) (h : History) (logs : ℕ → List LogEntry) (j : ℕ) (c : Snapshot) (mine : List Write) (s : Statement) (a : Answer) →
    FitsAnswer buckets u own s a → MayAnswer h logs j c mine s a → IsSmall (length h) a
fits_small buckets u own h logs j c mine (Put r row) (Newer n) f m = newer_small h c.at n m.1.1.over m.1.1.within
fits_small buckets u own h logs j c mine (Put r row) (Begun n) f m = absurd f
fits_small buckets u own h logs j c mine (Put r row) (Swept sweep) f m = absurd f
fits_small buckets u own h logs j c mine (Put r row) _ f m = tt
fits_small buckets u own h logs j c mine (Del r) (Newer n) f m = newer_small h c.at n m.1.1.over m.1.1.within
fits_small buckets u own h logs j c mine (Del r) (Begun n) f m = absurd f
fits_small buckets u own h logs j c mine (Del r) (Swept sweep) f m = absurd f
fits_small buckets u own h logs j c mine (Del r) _ f m = tt
fits_small buckets u own h logs j c mine (Get r) (Newer n) f m = absurd f
fits_small buckets u own h logs j c mine (Get r) (Begun n) f m = absurd f
fits_small buckets u own h logs j c mine (Get r) (Swept sweep) f m = absurd f
fits_small buckets u own h logs j c mine (Get r) _ f m = tt
fits_small buckets u own h logs j c mine (Scan t low high) (Newer n) f m = absurd f
fits_small buckets u own h logs j c mine (Scan t low high) (Begun n) f m = absurd f
fits_small buckets u own h logs j c mine (Scan t low high) (Swept sweep) f m = absurd f
fits_small buckets u own h logs j c mine (Scan t low high) _ f m = tt
fits_small buckets u own h logs j c mine _ a f m = absurd m
