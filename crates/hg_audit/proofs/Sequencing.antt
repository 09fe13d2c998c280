-- Whether lines have a shape, and how many there are.
use Rattle.std.proofs.Common.{◌≡◌, ℕ, zero, suc, ◌+◌, ◌*◌, List, [], ◌∷◌, length, true, false, Option, Some, None, refl, sym, ap, subst, ◌∙◌}
use Rattle.std.specs.Prelude.{is_some}
use Rattle.std.specs.Option.{MatchOption}
use Rattle.hg_base.specs.declared.statement.Record.{Record}
use Rattle.hg_base.specs.declared.line.Line.{Line}
use Rattle.hg_base.specs.Shape.{HasShape}
use Rattle.hg_base.proofs.ListFacts.{false_true}
use Rattle.hg_decide.specs.Audit.{FirstOutOfShape}
use Rattle.hg_known.specs.Sequenced.{with_rounds}
use Rattle.hg_known.proofs.Sequencing.{run_length}

pub shape_length : (records : List Record) (lines : List Line) → HasShape records lines → length records ≡ length lines
shape_length [] [] h = refl
shape_length [] (line ∷ lines) h = absurd h
shape_length (r ∷ rs) [] h = absurd h
shape_length (r ∷ rs) (line ∷ lines) h = ap suc (shape_length rs lines h.1)

-- a run whose lines have its shape has as many rounds as the lines leave
pub run_lines : (shown : List Record) (lines : List Line) (n : ℕ) → HasShape (with_rounds shown n) lines → length shown + 3 * n ≡ length lines
run_lines shown lines n h = sym (run_length shown n) ∙ shape_length (with_rounds shown n) lines h

pub when_none : {X : Type 0} (P : Type 0) (Q : X → Type 0) (o : Option X) → o ≡ None → MatchOption o P Q → P
when_none P Q None e h = h
when_none P Q (Some x) e h = cc

pub when_some : {X : Type 0} (P : Type 0) (Q : X → Type 0) (o : Option X) (x : X) → o ≡ Some x → MatchOption o P Q → Q x
when_some P Q None x e h = cc
when_some P Q (Some y) x e h = subst Q (some_is e) h
  where
    some_is : Some y ≡ Some x → y ≡ x
    some_is e = cc

pub out_of_shape : (records : List Record) (lines : List Line) (k : ℕ) → FirstOutOfShape records lines k → HasShape records lines → ⊥
out_of_shape [] [] k f h = f
out_of_shape [] (line ∷ lines) k f h = h
out_of_shape (r ∷ rs) [] k f h = h
out_of_shape (r ∷ rs) (line ∷ lines) zero f h = f h.0
out_of_shape (r ∷ rs) (line ∷ lines) (suc k) f h = out_of_shape rs lines k f.1 h.1

pub not_in_shape : (records : List Record) (lines : List Line) (found : Option ℕ) → is_some found ≡ true →
    MatchOption found (HasShape records lines) (FirstOutOfShape records lines) → HasShape records lines → ⊥
not_in_shape records lines None e f h = false_true e
not_in_shape records lines (Some k) e f h = out_of_shape records lines k f h

pub in_its_shape : (records : List Record) (lines : List Line) (found : Option ℕ) → is_some found ≡ false →
    MatchOption found (HasShape records lines) (FirstOutOfShape records lines) → HasShape records lines
in_its_shape records lines None e f = f
in_its_shape records lines (Some k) e f = absurd (false_true (sym e))
