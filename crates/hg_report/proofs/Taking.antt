-- One record is taken where its bytes are those of the guess.
use Rattle.std.proofs.Common.{◌≡◌, ◌≢◌, ◌<◌, ◌∙◌, ℕ, List, ◌++◌, Bor, Option, Some, None, option_map, sym, ap, subst, arith}
use Rattle.std.specs.Prelude.{IfSome, MatchOption, ⊤}
use Rattle.hg_base.specs.Script.{Script}
use Rattle.hg_base.specs.Text.{Field}
use Rattle.hg_transcript.specs.declared.piece.Piece.{Piece}
use Rattle.hg_transcript.specs.declared.piece.Piece.TheVariants as piece
use Rattle.hg_report.specs.declared.progress.Open.{Open}
use Rattle.hg_report.specs.declared.progress.Progress.{Progress}
use Rattle.hg_records.specs.Bytes.{record_bytes}
use Rattle.hg_transcript.specs.Piece.{piece_fields}
use Rattle.hg_report.specs.Progress.{Begins, guess_after, Takes}
use Rattle.hg_report.proofs.Fitting.{FitsFirst, FitsNext, comes_first, comes_row, comes_held, comes_total, guess_fits}

same_piece : (a b : Piece) → Some a ≡ Some b → a ≡ b
same_piece a b e = cc e

pub takes_none : (script : Script) (old new : Progress) (stood : List Field) (bytes text : List ℕ) (guessed : Piece) → Some guessed ≡ guess_after script old.last stood →
    text ≡ record_bytes (piece_fields script.tables guessed)
    → ((rest : List ℕ) → bytes ≡ text ++ rest → ⊥) → Takes script old stood bytes new None
takes_none script old new stood bytes text guessed g w without fields next is stands rest e =
    let same : Some guessed ≡ Some next = g ∙ ap (guess_after script old.last) (sym stands) ∙ is.guess in
    without rest (e ∙ ap (λ (f : List Field). record_bytes f ++ rest) (sym is.is ∙ ap (piece_fields script.tables) (sym (same_piece guessed next same))) ∙ ap (λ (t : List ℕ). t ++ rest) (sym w))

abbrev BelowSix : Piece → Type 0
BelowSix (piece.Total index number) = index < 6
BelowSix _ = ⊤

first_below : (script : Script) (next : Piece) → FitsFirst script next → BelowSix next
first_below script (piece.Total index number) h = omega (arith, h.0)
first_below script next h = tt

below : (script : Script) (state : Open) (next : Piece) → FitsNext script state next → BelowSix next
below script _ _ (comes_first state next free h) = first_below script next h
below script _ _ (comes_row session place at table left rows key values some h) = tt
below script _ _ (comes_held session place sweep told h) = tt
below script _ _ (comes_total index totals number h k) = h

-- what is left behind a text, or that nothing is
pub begins : (bytes text full : List ℕ) (o : Option (Bor (List ℕ))) → text ≡ full → MatchOption o ((rest : List ℕ) → bytes ≢ text ++ rest) (λ x. bytes ≡ text ++ x.now)
    → Begins bytes full (option_map (λ s. s.now) o)
begins bytes text full None w h = λ rest e. h rest (e ∙ ap (λ (t : List ℕ). t ++ rest) (sym w))
begins bytes text full (Some x) w h = h ∙ ap (λ (t : List ℕ). t ++ x.now) w

-- at most six totals are told
pub total_below : (script : Script) (state : Open) (fields : List Field) (next : Piece) → Some next ≡ guess_after script state fields → (index number : ℕ) → next ≡ piece.Total index number → index < 6
total_below script state fields next g index number e =
    let fits : FitsNext script state next = subst (λ (o : Option Piece). IfSome o (FitsNext script state)) (sym g) (guess_fits script fields state) in
    subst BelowSix e (below script state next fits)
