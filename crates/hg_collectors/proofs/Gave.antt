-- What the visits of a round gave back.
use Rattle.std.proofs.Common.{◌≡◌, inl, inr, ℕ, zero, suc, ◌+◌, ◌<◌, eqb, List, [], ◌∷◌, sym, ap, ◌∙◌, subst, arith}
use Rattle.std.proofs.Common.{ne_eqb}
use Rattle.std.specs.Prelude.{Some}
use native.Mathlib.Decide.{ℕ_discrete}
use Rattle.hg_base.specs.declared.report.Kind.{Kind}
use Rattle.hg_base.specs.declared.report.Kind.TheVariants.{Interval}
use Rattle.hg_base.specs.declared.rid.Rid.{Rid}
use Rattle.hg_core.specs.declared.version.Version.{Version}
use Rattle.hg_core.specs.declared.visit.Visit.{Visit}
use Rattle.hg_core.specs.Contents.{Content, look}
use Rattle.hg_headline.specs.OneRun.{GaveBack}
use Rattle.hg_rule.specs.Facts.{IsAmong}
use Rattle.hg_rule.specs.Keys.{one}
use Rattle.hg_rounds.specs.Helpers.{visited, AreVisits}
use Rattle.hg_rounds.specs.Visits.{IsVisitOf, OneEach}
use Rattle.hg_rounds.specs.Word.{times}

-- ---- what visits gave back

pub gave_map : (b : ℕ) (P Q : Content → Type 0) → ((c : Content) → P c → Q c) → (visits : List Visit) → GaveBack b P visits → GaveBack b Q visits
gave_map b P Q f [] g = absurd g
gave_map b P Q f (x ∷ visits) (inl g) = inl (g.0, (g.1.0, (g.1.1.0, f g.1.0 g.1.1.1)))
gave_map b P Q f (x ∷ visits) (inr g) = inr (gave_map b P Q f visits g)

-- each record as Q has it
abbrev pub All : (Rid → List Version → Type 0) → Content → Type 0
All Q given = (r : Rid) → Q r (look r given)

pub one_gave : (kind : Kind) (Q : Rid → List Version → Type 0) (mark round b : ℕ) (x : Visit) → IsVisitOf kind Q mark round b x → (x.bucket ≡ b) × ((given : Content) × ((x.given ≡ Some given) × All Q given))
one_gave kind Q mark round b x i = (ap (λ (y : Visit). y.bucket) i.is, (i.given, (ap (λ (y : Visit). y.given) i.is, i.left)))

pub each_gave : (kind : Kind) (Q : Rid → List Version → Type 0) (mark round n b : ℕ) (visits : List Visit) → OneEach (IsVisitOf kind Q mark round) n visits → b < n → GaveBack b (All Q) visits
each_gave kind Q mark round zero b visits once l = absurd (omega arith)
each_gave kind Q mark round (suc n) b [] once l = absurd once
each_gave kind Q mark round (suc n) b (x ∷ visits) once l = go (ℕ_discrete b n) (λ less. each_gave kind Q mark round n b visits once.1 less)
  where
    go : Dec (b ≡ n) → (b < n → GaveBack b (All Q) visits) → GaveBack b (All Q) (x ∷ visits)
    go (yes e) before = inl (one_gave kind Q mark round b x (subst (λ k. IsVisitOf kind Q mark round k x) (sym e) once.0))
    go (no away) before = inr (before (omega arith))

pub found_gave : (Q : Rid → List Version → Type 0) (mark round buckets b : ℕ) (visits : List Visit) → AreVisits Q mark round buckets visits → 0 < times b (visited visits) → GaveBack b (All Q) visits
found_gave Q mark round buckets b [] each l = absurd (omega arith)
found_gave Q mark round buckets b (x ∷ visits) each l = go (ℕ_discrete x.bucket b) (λ some. found_gave Q mark round buckets b visits each.1 some)
  where
    go : Dec (x.bucket ≡ b) → (0 < times b (visited visits) → GaveBack b (All Q) visits) → GaveBack b (All Q) (x ∷ visits)
    go (yes e) before = inl (one_gave Interval Q mark round b x (subst (λ k. IsVisitOf Interval Q mark round k x) e each.0.1))
    go (no away) before = inr (before (let a : ℕ = one (eqb x.bucket b) in let c : ℕ = times b (visited visits) in
        let z : a ≡ 0 = ap one (ne_eqb x.bucket b away) in let s : 0 < a + c = l in omega arith))

pub among_gave : (b : ℕ) (P : Content → Type 0) (y : Visit) (given : Content) → y.bucket ≡ b → y.given ≡ Some given → P given → (visits : List Visit) → IsAmong y visits → GaveBack b P visits
among_gave b P y given at gave p [] i = absurd i
among_gave b P y given at gave p (x ∷ visits) (inl e) = inl (ap (λ (z : Visit). z.bucket) e ∙ at, (given, (ap (λ (z : Visit). z.given) e ∙ gave, p)))
among_gave b P y given at gave p (x ∷ visits) (inr i) = inr (among_gave b P y given at gave p visits i)
