-- The pieces of a text: each is one record.
use Rattle.std.specs.Prelude.{ℕ, List, [], ◌∷◌, ◌++◌, ◌==◌, codes, decimal, if◌then◌else◌}
use Rattle.hg_base.specs.declared.line.Answer.TheVariants.{Swept}
use Rattle.hg_base.specs.Script.{Declaration}
use Rattle.hg_base.specs.Text.{Field, answer_fields, held_fields, row_fields, told_as, total_fields}
use Rattle.hg_transcript.specs.declared.piece.Piece.{Piece}
use Rattle.hg_transcript.specs.declared.piece.Piece.TheVariants as piece

-- after the session and the place
abbrev pub behind : ℕ → ℕ → List Field → List Field
behind session place fields = decimal session ∷ decimal place ∷ fields

-- the word of each of the totals
abbrev pub total_word : ℕ → Field
total_word index =
    if index == 0 then codes "made" else if index == 1 then codes "undone" else if index == 2 then codes "group"
    else if index == 3 then codes "table" else if index == 4 then codes "interval" else codes "left"

-- the fields of a piece; those of a line are the fields of its first record
abbrev pub piece_fields : List Declaration → Piece → List Field
piece_fields tables (piece.Line line) = behind line.session line.place (told_as (codes "at") line.reply.at ++ answer_fields tables line.reply.answer ++ told_as (codes "committed") line.reply.number)
piece_fields tables (piece.Scan session place at table left) = behind session place (told_as (codes "at") at ++ codes "rows" ∷ decimal left ∷ [])
piece_fields tables (piece.Sweep session place sweep) = behind session place (answer_fields tables (Swept sweep))
piece_fields tables (piece.Row session place key row) = behind session place (row_fields (key, row))
piece_fields tables (piece.Held session place told) = behind session place (held_fields told)
piece_fields tables (piece.Total index number) = total_fields (total_word index) number
