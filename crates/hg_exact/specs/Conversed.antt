-- A conversation: records are sent one after the other, and each is answered before the next one is looked at. The records that break no
-- rule make a script, and its statements are answered as in a replay (`step`). Every other record changes nothing: one that breaks a rule,
-- one that is too long, and one that asks for the totals.
use Rattle.std.specs.Prelude.{ℕ, suc, List, [], ◌∷◌, length, drop, Bool, false, bytes_eq, codes, if◌then◌else◌, Option, Some, None, ⊤}
use Rattle.hg_base.specs.declared.limits.TheConstants.{MOST_SESSIONS}
use Rattle.hg_base.specs.declared.statement.Record.{Record}
use Rattle.hg_base.specs.declared.line.Line.{Line}
use Rattle.hg_base.specs.declared.line.Totals.{Totals}
use Rattle.hg_base.specs.Script.{Declaration, Script, replay}
use Rattle.hg_base.specs.Sound.{all_said}
use Rattle.hg_script.specs.declared.code.Code.{Code}
use Rattle.hg_script.specs.Fields.{Fields}
use Rattle.hg_script.specs.Judging.{code_at, script_at}
use Rattle.hg_script.specs.Meaning.{nothing}
use Rattle.hg_talk.specs.Framing as talk
use Rattle.hg_talk.specs.Framing.{Sent}
use Rattle.hg_exact.specs.State.{State, start}
use Rattle.hg_exact.specs.Replayed.{replayed, step}
use Rattle.hg_exact.specs.SoFar.{totals_so_far}

-- ---- what is known between two records

-- how many records were sent, the script of those that broke no rule, and the state after its statements
pub record Course : Type 0 where
  pub place : ℕ
  pub script : Script
  pub state : State

-- nothing was sent yet; there are all sessions that there may be
abbrev pub unasked : Course
unasked = record { place = 0; script = nothing; state = start MOST_SESSIONS }

-- ---- one record

-- The answer to one record: to a version or a table, to one that breaks a rule, to one that is too long, to a statement, or to one that
-- asks for the totals. A number is the place of the record among all that were sent.
pub data Answered : Type 0 where
  Declared : ℕ → Answered
  Bad : ℕ → Code → Answered
  TooLong : ℕ → Answered
  Replied : List Declaration → Line → Answered
  Counted : Totals → Answered

-- a record that changes nothing has a place all the same
abbrev pub passed : Course → Course
passed c = record c { place = suc c.place }

-- a statement that broke no rule is one step, as in a replay
abbrev pub stepped : Course → Script → Record → Answered × Course
stepped c script r =
    let now = step c.state r.session r.statement in (
      Replied script.tables (record { session = r.session; place = r.place; reply = now.0 }),
      record { place = suc c.place; script = script; state = now.1 },
    )

-- A record that broke no rule made this script, and these are the statements that it added: none, or one.
abbrev pub taken : Course → Script → List Record → Answered × Course
taken c script [] = (Declared (suc c.place), record { place = suc c.place; script = script; state = c.state })
taken c script (r ∷ more) = stepped c script r

-- a record that breaks a rule is answered by its code and changes nothing, and one that breaks none makes this script
abbrev pub judged : Course → Script → Option Code → Answered × Course
judged c script (Some code) = (Bad (suc c.place) code, passed c)
judged c script None = taken c script (drop (length c.script.records) script.records)

-- the totals asked for are those of a replay of the script so far
abbrev pub counted : Course → Answered × Course
counted c = (Counted (totals_so_far (all_said replay c.script (replayed c.script))), passed c)

-- whether a record asks for the totals: it is that word alone
abbrev pub asks_totals : Fields → Bool
asks_totals (word ∷ []) = bytes_eq word (codes "totals")
asks_totals _ = false

-- what is answered to one record, and what is known after it
abbrev pub hears : Course → Sent → Answered × Course
hears c talk.Long = (TooLong (suc c.place), passed c)
hears c (talk.Record r) = if asks_totals r then counted c else judged c (script_at (suc c.place) c.script r) (code_at (suc c.place) c.script r)

-- ---- all records

-- what is answered to these records, from there on
unfoldable pub answered_from : Course → List Sent → List Answered
answered_from c [] = []
answered_from c (x ∷ sent) = let now = hears c x in now.0 ∷ answered_from now.1 sent

-- what is known after them
unfoldable pub course_from : Course → List Sent → Course
course_from c [] = c
course_from c (x ∷ sent) = course_from (hears c x).1 sent

-- what a conversation answers
abbrev pub conversed : List Sent → List Answered
conversed sent = answered_from unasked sent

-- the script of the records that broke no rule
abbrev pub accepted : List Sent → Script
accepted sent = (course_from unasked sent).script

-- the lines among some answers
abbrev pub lines_of : List Answered → List Line
lines_of [] = []
lines_of (Declared place ∷ more) = lines_of more
lines_of (Bad place code ∷ more) = lines_of more
lines_of (TooLong place ∷ more) = lines_of more
lines_of (Replied tables line ∷ more) = line ∷ lines_of more
lines_of (Counted totals ∷ more) = lines_of more

-- an answer that says that its record was accepted: as a version, a table or a statement
abbrev pub IsAcceptance : Answered → Type 0
IsAcceptance (Declared place) = ⊤
IsAcceptance (Replied tables line) = ⊤
IsAcceptance _ = ⊥
