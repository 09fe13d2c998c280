-- The answers so far, where it is not known yet whether the replies to statements are exact: each answer is the one that is due, whatever
-- the replies.
use Rattle.std.specs.Prelude.{◌≡◌, List, [], ◌∷◌, ◌++◌, ⊤}
use Rattle.hg_base.specs.declared.line.Line.{Line}
use Rattle.hg_base.specs.declared.line.Reply.{Reply}
use Rattle.hg_base.specs.declared.line.Totals.{Totals}
use Rattle.hg_base.specs.Script.{Script, replay}
use Rattle.hg_base.specs.Sound.{all_said}
use Rattle.hg_base.specs.Transcript.{Said}
use Rattle.hg_talk.specs.Framing.{Sent}
use Rattle.hg_exact.specs.SoFar.{plain_totals, totals_so_far}
use Rattle.hg_exact.specs.Conversed.{Answered, Replied, Counted, Course, accepted, hears, lines_of, unasked}

-- An answer is the one that is due, except that a statement may have any reply, and that totals are those of the lines that were printed.
abbrev pub IsDue : List Said → Answered → Answered → Type 0
IsDue printed (Replied tables line) answer = (reply : Reply) × (answer ≡ Replied tables (record { session = line.session; place = line.place; reply = reply }))
IsDue printed (Counted totals) answer = (t : Totals) × (answer ≡ Counted t) × (plain_totals t ≡ totals_so_far printed)
IsDue printed due answer = answer ≡ due

-- from there on, each of these answers is the one that is due, where these lines were printed before
unfoldable pub AreDue : Course → List Line → List Sent → List Answered → Type 0
AreDue c lines [] [] = ⊤
AreDue c lines (x ∷ sent) (answer ∷ answers) = IsDue (all_said replay c.script lines) (hears c x).0 answer × AreDue (hears c x).1 (lines ++ lines_of (answer ∷ [])) sent answers
AreDue c lines _ _ = ⊥

-- each of the answers to all that was sent is the one that is due
abbrev pub AreSoFar : List Sent → List Answered → Type 0
AreSoFar sent answers = AreDue unasked [] sent answers

-- the lines that were printed, beside their records
abbrev pub said_so_far : List Sent → List Answered → List Said
said_so_far sent answers = all_said replay (accepted sent) (lines_of answers)

-- One more record was sent, and this answer is the one that is due. The script of the records that broke no rule is this one then.
pub record IsOneMore (sent : List Sent) (answers : List Answered) (x : Sent) (answer : Answered) (script : Script) : Type 0 where
  pub due : AreSoFar (sent ++ x ∷ []) (answers ++ answer ∷ [])
  pub script_is : accepted (sent ++ x ∷ []) ≡ script
