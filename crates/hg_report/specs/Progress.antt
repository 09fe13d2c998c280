-- How far a reader has come, and what may come next.
use Rattle.std.specs.Prelude.{◌≡◌, ℕ, ◌+◌, ◌-◌, List, [], ◌∷◌, ◌++◌, ◌==◌, map, Option, Some, None, codes, nat_lt, if◌then◌else◌}
use Rattle.hg_base.specs.declared.report.Told.{Told}
use Rattle.hg_base.specs.declared.value.Value.{Value}
use Rattle.hg_base.specs.declared.report.Sweep.{Sweep}
use Rattle.hg_base.specs.declared.line.Answer.TheVariants.{Rows, Swept}
use Rattle.hg_base.specs.declared.line.Line.{Line}
use Rattle.hg_base.specs.declared.line.Totals.{Totals}
use Rattle.hg_base.specs.Script.{Script}
use Rattle.hg_base.specs.Text.{Field}
use Rattle.hg_transcript.specs.declared.piece.Piece.{Piece}
use Rattle.hg_transcript.specs.declared.piece.Piece.TheVariants as piece
use Rattle.hg_report.specs.declared.progress.Open.{Open}
use Rattle.hg_report.specs.declared.progress.Open.TheVariants as opens
use Rattle.hg_report.specs.declared.progress.Progress.{Progress}
use Rattle.hg_records.specs.Bytes.{field_bytes, record_bytes}
use Rattle.hg_report.specs.Fields.{says, natural_at}
use Rattle.hg_transcript.specs.Piece.{piece_fields}
use Rattle.hg_report.specs.Guess.{first_guess, row_guess, held_guess}

-- ---- the guess of the next record

-- the piece that comes next, by what may still be open: a scan's rows, a report's held snapshots, or totals
abbrev pub guess_after : Script → Open → List Field → Option Piece
guess_after script opens.Nothing fields = first_guess script fields
guess_after script (opens.Scan session place at table left rows) fields = if nat_lt 0 left then row_guess script.tables session place table fields else first_guess script fields
guess_after script (opens.Sweep session place sweep) fields = if says fields 2 (codes "held") then Some (held_guess session place fields) else first_guess script fields
guess_after script (opens.Totals index totals) fields = if nat_lt index 6 then Some (piece.Total index (natural_at fields 2)) else None

-- ---- what a piece adds

-- the line of a scan with these rows
abbrev pub scan_line : ℕ → ℕ → Option ℕ → List (ℕ × List Value) → Line
scan_line session place at rows = record { session = session; place = place; reply = record { at = at; answer = Rows rows; number = None } }

-- the line of a report
abbrev pub sweep_line : ℕ → ℕ → Sweep → Line
sweep_line session place sweep = record { session = session; place = place; reply = record { at = None; answer = Swept sweep; number = None } }

-- the line whose records may go on, if there is one
abbrev pub open_lines : Open → List Line
open_lines opens.Nothing = []
open_lines (opens.Scan session place at table left rows) = scan_line session place at rows ∷ []
open_lines (opens.Sweep session place sweep) = sweep_line session place sweep ∷ []
open_lines (opens.Totals index totals) = []

-- all lines so far
abbrev pub lines_of : Progress → List Line
lines_of progress = progress.lines ++ open_lines progress.last

-- six totals of 0
abbrev pub no_totals : Totals
no_totals = record { made = 0; undone = 0; group = 0; table = 0; interval = 0; left = 0 }

-- the totals that were read so far
abbrev pub totals_of : Open → Totals
totals_of (opens.Totals index totals) = totals
totals_of _ = no_totals

-- the totals with one of them set, by its index
abbrev pub with_total : ℕ → ℕ → Totals → Totals
with_total index number totals =
    if index == 0 then record totals { made = number } else if index == 1 then record totals { undone = number } else if index == 2 then record totals { group = number }
    else if index == 3 then record totals { table = number } else if index == 4 then record totals { interval = number } else record totals { left = number }

-- what is open, with one row more
abbrev pub with_row : Open → ℕ × List Value → Open
with_row (opens.Scan session place at table left rows) p = opens.Scan session place at table (left - 1) (rows ++ p ∷ [])
with_row state p = state

-- what is open, with one held snapshot more
abbrev pub with_held : Open → Told → Open
with_held (opens.Sweep session place sweep) told = opens.Sweep session place (record sweep { held = sweep.held ++ told ∷ [] })
with_held state told = state

-- how far the reader has come after this piece
abbrev pub after : Progress → Piece → Progress
after progress (piece.Line line) = record { lines = lines_of progress ++ line ∷ []; last = opens.Nothing }
after progress (piece.Scan session place at table left) = record { lines = lines_of progress; last = opens.Scan session place at table left [] }
after progress (piece.Sweep session place sweep) = record { lines = lines_of progress; last = opens.Sweep session place sweep }
after progress (piece.Row session place key row) = record progress { last = with_row progress.last (key, row) }
after progress (piece.Held session place told) = record progress { last = with_held progress.last told }
after progress (piece.Total index number) = record { lines = lines_of progress; last = opens.Totals (index + 1) (with_total index number (totals_of progress.last)) }

-- the reader at the start
abbrev pub at_start : Progress
at_start = record { lines = []; last = opens.Nothing }

-- the reader when all totals were told
abbrev pub finished : List Line → Totals → Progress
finished lines totals = record { lines = lines; last = opens.Totals 6 totals }

-- ---- one record

-- fields as they stand in a text
abbrev pub standing : List Field → List Field
standing fields = map field_bytes fields

-- the record is the one that is written for what it is taken for
pub record IsNext (script : Script) (progress : Progress) (fields : List Field) (next : Piece) : Type 0 where
  pub guess : guess_after script progress.last (standing fields) ≡ Some next
  pub is : piece_fields script.tables next ≡ fields

-- The bytes begin with the text, and the rest is left, or they do not.
abbrev pub Begins : List ℕ → List ℕ → Option (List ℕ) → Type 0
Begins bytes text None = (rest : List ℕ) → bytes ≡ text ++ rest → ⊥
Begins bytes text (Some rest) = bytes ≡ text ++ rest

-- The record at the start of the bytes, whose fields are written there as `stood`, is taken, and the bytes after it are left. Or
-- there is none that may come next.
abbrev pub Takes : Script → Progress → List Field → List ℕ → Progress → Option (List ℕ) → Type 0
Takes script old stood bytes new None =
    (fields : List Field) (next : Piece) → IsNext script old fields next → standing fields ≡ stood → (rest : List ℕ) → bytes ≡ record_bytes fields ++ rest → ⊥
Takes script old stood bytes new (Some rest) =
    (next : Piece) × (guess_after script old.last stood ≡ Some next) × (bytes ≡ record_bytes (piece_fields script.tables next) ++ rest) × (new ≡ after old next)

-- the records are taken one by one
abbrev pub Runs : Script → Progress → List (List Field) → Progress → Type 0
Runs script old [] new = new ≡ old
Runs script old (fields ∷ more) new = (next : Piece) × IsNext script old fields next × Runs script (after old next) more new
