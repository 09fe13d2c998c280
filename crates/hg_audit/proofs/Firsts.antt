-- The first line of which something does not hold.
use Rattle.std.proofs.Common.{◌≡◌, ℕ, zero, suc, ◌+◌, ◌<◌, ◌≤◌, List, [], ◌∷◌, length, take, get_or, Bool, true, false, Option, Some, None, refl, cond, sym, subst, arith}
use Rattle.std.specs.Prelude.{◌||◌, is_some, Decides}
use Rattle.std.specs.Option.{MatchOption}
use Rattle.hg_base.specs.Lists.{EachAfter, onto}
use Rattle.hg_base.specs.Transcript.{Said}
use Rattle.hg_base.proofs.ListFacts.{false_true}
use Rattle.hg_decide.specs.Audit.{FirstWithout}
use Rattle.hg_known.proofs.Walking.{AtLine, earlier_at, each_more, each_all}
use Rattle.hg_audit.specs.Found.{IsFirst}
use Rattle.hg_known.specs.declared.said.Said as kept
use Rattle.hg_known.specs.Lines.{HasRest}

pub first_without : (P : List Said → Said → Type 0) (earlier xs : List Said) (k : ℕ) (now : Said) → k < length xs → now ≡ get_or xs k now → EachAfter P earlier (take k xs) →
    (P (onto (take k xs) earlier) now → ⊥) → FirstWithout P earlier xs k
first_without P earlier [] k now less e h f = absurd (omega (arith, less))
first_without P earlier (x ∷ xs) zero now less e h f = λ p. f (subst (P earlier) (sym e) p)
first_without P earlier (x ∷ xs) (suc k) now less e h f = let more : k < length xs = omega (arith, less) in (h.0, first_without P (x ∷ earlier) xs k now more e h.1 f)

-- of the first k lines, the first of which P does not hold
abbrev pub SoFar : (List Said → Said → Type 0) → List Said → ℕ → Option ℕ → Type 0
SoFar P xs k found = MatchOption found (EachAfter P [] (take k xs)) (λ i. FirstWithout P [] xs i)

pub so_far : (P : List Said → Said → Type 0) (xs : List Said) (k : ℕ) (now : Said) (found result : Option ℕ) (right : Bool) → k < length xs → now ≡ get_or xs k now →
    AtLine xs k now → SoFar P xs k found → Decides right (P (earlier_at xs k) now) →
    result ≡ cond (is_some found || right) found (Some k) → SoFar P xs (k + 1) result
so_far P xs k now (Some i) result right less is at h d e = subst (SoFar P xs (k + 1)) (sym e) h
so_far P xs k now None result true less is at h d e = subst (SoFar P xs (k + 1)) (sym e) (each_more P xs k now at h (d.0 refl))
so_far P xs k now None result false less is at h d e = subst (SoFar P xs (k + 1)) (sym e) (first_without P [] xs k now less is h (λ p. false_true (d.1 p)))

pub so_far_all : (P : List Said → Said → Type 0) (xs : List Said) (k : ℕ) (found : Option ℕ) → length xs ≤ k → SoFar P xs k found → IsFirst P xs found
so_far_all P xs k (Some i) over h = h
so_far_all P xs k None over h = each_all P xs k over h

-- what a reader at line k reads has what its cursor had left before it
pub rest_at : (reader : ℕ × List Said) (xs : List Said) (k : ℕ) (now : kept.Said) → reader ≡ (k, xs) → HasRest (onto (take reader.0 reader.1) []) now → HasRest (earlier_at xs k) now
rest_at reader xs k now e h = subst (λ (p : ℕ × List Said). HasRest (onto (take p.0 p.1) []) now) e h
