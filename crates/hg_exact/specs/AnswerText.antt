-- How the answers of a conversation are written, and what the records that were sent leave open in them.
use Rattle.std.specs.Prelude.{◌≡◌, ℕ, ◌+◌, List, [], ◌∷◌, ◌++◌, length, map, codes, decimal, ⊤}
use Rattle.std.specs.List.{flat_map}
use Rattle.hg_base.specs.declared.line.Answer.{Answer}
use Rattle.hg_base.specs.declared.line.Answer.TheVariants.{Swept}
use Rattle.hg_base.specs.Lists.{Each}
use Rattle.hg_base.specs.Text.{Field, line_records, totals_records}
use Rattle.hg_script.specs.Codes.{code_text}
use Rattle.hg_talk.specs.Framing.{Sent}
use Rattle.hg_exact.specs.Replayed.{plain}
use Rattle.hg_exact.specs.SoFar.{plain_totals}
use Rattle.hg_exact.specs.Conversed.{Answered, Declared, Bad, TooLong, Replied, Counted, conversed}

-- ---- records and bytes

-- before a report comes how many snapshots it holds, each in a line of its own
abbrev pub holds_of : Answer → List (List Field)
holds_of (Swept sweep) = (codes "holds" ∷ decimal (length sweep.held) ∷ []) ∷ []
holds_of _ = []

-- the records of an answer
abbrev pub answer_records : Answered → List (List Field)
answer_records (Declared place) = (codes "declared" ∷ decimal place ∷ []) ∷ []
answer_records (Bad place code) = (codes "bad" ∷ decimal place ∷ code_text code ∷ []) ∷ []
answer_records (TooLong place) = (codes "bad" ∷ decimal place ∷ codes "Long" ∷ []) ∷ []
answer_records (Replied tables line) = holds_of line.reply.answer ++ line_records tables line
answer_records (Counted totals) = totals_records totals

-- the bytes of an answer, where `row` is the text of one record
abbrev pub answer_text : (List Field → List ℕ) → Answered → List ℕ
answer_text row a = flat_map row (answer_records a)

-- ---- what is left open

-- an answer, without what a report says was removed and moved, and without what totals say of the collectors and of what is left
abbrev pub plain_answered : Answered → Answered
plain_answered (Replied tables line) = Replied tables (plain line)
plain_answered (Counted totals) = Counted (plain_totals totals)
plain_answered a = a

-- the totals balance: each version that was made was undone, or removed by a collector, or is left
abbrev pub IsBalanced : Answered → Type 0
IsBalanced (Counted t) = t.made ≡ t.undone + t.group + t.table + t.interval + t.left
IsBalanced _ = ⊤

-- These texts answer these records: they are those of what is conversed, but for what is left open, and totals among them balance.
pub record AreAnswers (row : List Field → List ℕ) (sent : List Sent) (texts : List (List ℕ)) : Type 0 where
  pub answers : List Answered
  pub exact : map plain_answered answers ≡ conversed sent
  pub written : texts ≡ map (answer_text row) answers
  pub balanced : Each IsBalanced answers
