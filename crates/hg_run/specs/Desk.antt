-- What a conversation goes on with between two records.
use Rattle.std.specs.Prelude.{◌≡◌, ◌⊎◌, ℕ, suc, ◌-◌, ◌≤◌, ◌^◌, List, [], ◌∷◌, ◌++◌, length, map, false, ⊤}
use Rattle.hg_base.specs.Lists.{Each}
use Rattle.hg_base.specs.Transcript.{of_session}
use Rattle.hg_records.specs.Bytes.{record_bytes}
use Rattle.hg_script.specs.Fields.{Fields}
use Rattle.hg_script.specs.declared.judge.Judged.{Judged}
use Rattle.hg_script.specs.Judging.{IsJudged, Knows}
use Rattle.hg_talk.specs.Framing.{Sent}
use Rattle.hg_talk.specs.Talking.{Exchange, asked_in}
use Rattle.hg_talk.specs.declared.trouble.Stop.{Stop}
use Rattle.hg_talk.specs.declared.trouble.Stop.TheVariants as stop
use Rattle.hg_exact.specs.AnswerText.{IsBalanced, answer_text}
use Rattle.hg_exact.specs.Conversed.{Answered, accepted, asks_totals, lines_of}
use Rattle.hg_exact.specs.Due.{AreSoFar}
use Rattle.hg_run.specs.declared.desk.Desk.{Desk}
use Rattle.hg_run.specs.declared.engine.TheConstants.{MOST_STATEMENTS}
use Rattle.hg_run.specs.declared.talk.Talk.{Talk}
use Rattle.hg_run.specs.Collecting.{AreCollectors}
use Rattle.hg_run.specs.ForAll.{IsForAll}
use Rattle.hg_run.specs.Live.{HasStopped, IsLive}
use Rattle.hg_run.specs.Untold.{HaveTold}

-- All this was sent and answered so, and one more may be.
pub record IsGoing (d : Desk) (sent : List Sent) (answers : List Answered) : Type 0 where
  pub due : AreSoFar sent answers
  pub balanced : Each IsBalanced answers
  pub place : d.place ≡ length sent
  pub knows : Knows d.judge (accepted sent)
  pub live : IsLive d.engine d.crew.sessions.items d.last (accepted sent).records (lines_of answers)
  pub told : HaveTold d.crew.collectors (lines_of answers)
  pub collectors : AreCollectors d.engine d.crew.collectors
  pub for_all : IsForAll d.engine

-- The same, and one more record with these fields was judged so, and not answered yet.
pub record IsHearing (d : Desk) (sent : List Sent) (answers : List Answered) (r : Fields) (judged : Judged) : Type 0 where
  pub due : AreSoFar sent answers
  pub balanced : Each IsBalanced answers
  pub place : d.place ≡ length sent
  pub counts : asks_totals r ≡ false
  pub judged_is : IsJudged (suc (length sent)) (accepted sent) r judged d.judge
  pub live : IsLive d.engine d.crew.sessions.items d.last (accepted sent).records (lines_of answers)
  pub told : HaveTold d.crew.collectors (lines_of answers)
  pub collectors : AreCollectors d.engine d.crew.collectors
  pub for_all : IsForAll d.engine

-- One more was sent, the text of its answer was added, and the next may be.
pub record IsSaid (d : Desk) (sent : List Sent) (answers : List Answered) (x : Sent) (old new : List ℕ) : Type 0 where
  pub answer : Answered
  pub text : new ≡ old ++ answer_text record_bytes answer
  pub going : IsGoing d (sent ++ x ∷ []) (answers ++ answer ∷ [])

-- a session has run all statements that it may, or the number of records is greater than 64 bits can count
abbrev pub IsSpent : List Sent → Type 0
IsSpent sent = ((j : ℕ) × (MOST_STATEMENTS ≤ length (of_session j (accepted sent).records))) ⊎ (2 ^ 64 - 1 ≤ length sent)

-- why a conversation stops; running out of memory says nothing
abbrev pub IsCause : List Sent → Stop → Type 0
IsCause sent stop.NoMemory = ⊤
IsCause sent stop.Spent = IsSpent sent

-- All this was sent and answered so, and then no more may be. The answers to what was sent last (`unsaid`) were lost when memory ran out.
pub record HasEnded (d : Desk) (sent : List Sent) (answers : List Answered) (why : Stop) : Type 0 where
  pub unsaid : List Sent
  pub lost : List Answered
  pub due : AreSoFar (sent ++ unsaid) (answers ++ lost)
  pub many : length answers ≡ length sent
  pub balanced : Each IsBalanced answers
  pub stopped : HasStopped d.engine d.crew.sessions.items d.last (accepted (sent ++ unsaid)).records (lines_of (answers ++ lost))
  pub collectors : AreCollectors d.engine d.crew.collectors
  pub cause : IsCause sent why

-- these answers are what was heard as bytes
abbrev pub AreHeard : List Exchange → List Answered → Type 0
AreHeard heard answers = map (λ (e : Exchange). e.answer) heard ≡ map (answer_text record_bytes) answers

-- the next record may be heard
pub record IsReady (t : Talk) : Type 0 where
  pub answers : List Answered
  pub going : IsGoing t.desk (asked_in t.minutes.exchanges) answers
  pub heard : AreHeard t.minutes.exchanges answers

-- no more may be heard
pub record IsThrough (t : Talk) (why : Stop) : Type 0 where
  pub answers : List Answered
  pub ended : HasEnded t.desk (asked_in t.minutes.exchanges) answers why
  pub heard : AreHeard t.minutes.exchanges answers
