-- Lines beside their records, one after the other.
use Rattle.std.proofs.Common.{◌≡◌, ℕ, zero, suc, ◌+◌, ◌<◌, ◌≤◌, List, [], ◌∷◌, length, get_or, refl, sym, ap, ◌∙◌, subst, arith}
use Rattle.std.specs.Prelude.{min, nat_lt}
use Rattle.std.proofs.lemmas.Bool.{ltb-true, ltb-false}
use Rattle.std.proofs.lemmas.List.{get_or_default}
use Rattle.hg_base.proofs.ListFacts.{cases}
use Rattle.hg_base.specs.declared.statement.Record.{Record}
use Rattle.hg_base.specs.declared.line.Line.{Line}
use Rattle.hg_base.specs.Shape.{IsLineOf, HasShape}
use Rattle.hg_decide.specs.Audit.{FirstOutOfShape}

-- the first k lines are those of their records
abbrev pub Fit : List Record → List Line → ℕ → Type 0
Fit records lines k = (i : ℕ) (r : Record) (line : Line) → i < k → IsLineOf (get_or records i r) (get_or lines i line)

pub fit_rest : (r : Record) (rs : List Record) (line : Line) (lines : List Line) (k : ℕ) → Fit (r ∷ rs) (line ∷ lines) (suc k) → Fit rs lines k
fit_rest r rs line lines k h i q l less = h (suc i) q l (omega (arith, less))

pub first_wrong : (records : List Record) (lines : List Line) (k : ℕ) → k < length records → k < length lines → Fit records lines k →
    ((r : Record) (line : Line) → IsLineOf (get_or records k r) (get_or lines k line) → ⊥) → FirstOutOfShape records lines k
first_wrong [] lines k a b h f = absurd (omega (arith, a))
first_wrong (r ∷ rs) [] k a b h f = absurd (omega (arith, b))
first_wrong (r ∷ rs) (line ∷ lines) zero a b h f = f r line
first_wrong (r ∷ rs) (line ∷ lines) (suc k) a b h f =
    let less : k < length rs = omega (arith, a) in
    let short : k < length lines = omega (arith, b) in
    (h zero r line (omega arith), first_wrong rs lines k less short (fit_rest r rs line lines k h) f)

pub all_fit : (records : List Record) (lines : List Line) → length records ≡ length lines → Fit records lines (length records) → HasShape records lines
all_fit [] [] e h = tt
all_fit [] (line ∷ lines) e h = absurd (omega (arith, e))
all_fit (r ∷ rs) [] e h = absurd (omega (arith, e))
all_fit (r ∷ rs) (line ∷ lines) e h = let same : length rs ≡ length lines = omega (arith, e) in (h zero r line (omega arith), all_fit rs lines same (fit_rest r rs line lines (length rs) h))

pub one_missing : (records : List Record) (lines : List Line) → (length records ≡ length lines → ⊥) → Fit records lines (min (length records) (length lines)) →
    FirstOutOfShape records lines (min (length records) (length lines))
one_missing [] [] f h = f refl
one_missing [] (line ∷ lines) f h = omega arith
one_missing (r ∷ rs) [] f h = omega arith
one_missing (r ∷ rs) (line ∷ lines) f h =
    let less : min (suc (length rs)) (suc (length lines)) ≡ suc (min (length rs) (length lines)) = omega arith in
    subst (FirstOutOfShape (r ∷ rs) (line ∷ lines)) (sym less)
    (h zero r line (omega arith), one_missing rs lines (λ e. f (ap suc e)) (fit_rest r rs line lines (min (length rs) (length lines)) (subst (Fit (r ∷ rs) (line ∷ lines)) less h)))

pub fit_more : (records : List Record) (lines : List Line) (k : ℕ) → Fit records lines k → ((r : Record) (line : Line) → IsLineOf (get_or records k r) (get_or lines k line)) →
    Fit records lines (k + 1)
fit_more records lines k h f i r line less = cases (nat_lt i k)
    (λ e. h i r line (ltb-true i k e))
    (λ e. let over : k ≤ i = ltb-false i k e in let same : k ≡ i = omega (arith, over, less) in subst (λ n. IsLineOf (get_or records n r) (get_or lines n line)) same (f r line))

-- a record and a line of the lists, at any default
pub line_at : (records : List Record) (lines : List Line) (k : ℕ) (a : Record) (b : Line) (r : Record) (line : Line) → k < length records → k < length lines →
    a ≡ get_or records k a → IsLineOf a (get_or lines k b) → IsLineOf (get_or records k r) (get_or lines k line)
line_at records lines k a b r line less short e is =
    let left : a ≡ get_or records k r = e ∙ get_or_default records k a r less in
    subst (λ x. IsLineOf x (get_or lines k line)) left (subst (IsLineOf a) (get_or_default lines k b line short) is)

pub at_line_of : (records : List Record) (lines : List Line) (k : ℕ) (a : Record) (b : Line) (r : Record) (line : Line) → k < length records → k < length lines →
    a ≡ get_or records k a → IsLineOf (get_or records k r) (get_or lines k line) → IsLineOf a (get_or lines k b)
at_line_of records lines k a b r line less short e is =
    let left : a ≡ get_or records k r = e ∙ get_or_default records k a r less in
    subst (λ x. IsLineOf x (get_or lines k b)) (sym left) (subst (IsLineOf (get_or records k r)) (sym (get_or_default lines k b line short)) is)
