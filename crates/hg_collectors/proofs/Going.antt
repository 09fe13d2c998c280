-- Records are cut, one stretch after another.
use Rattle.std.proofs.Common.{◌≡◌, ℕ, zero, suc, ◌+◌, ◌<◌, ◌≤◌, List, [], ◌∷◌, ◌++◌, length, take, get_or, refl, sym, ap, ◌∙◌, subst, arith}
use Rattle.std.specs.Prelude.{Contains, IsPermutation}
use Rattle.std.specs.List.{between, dedup}
use Rattle.std.proofs.lemmas.List.{take-append-drop}
use Rattle.std.proofs.lemmas.List.Kept.{Contains-dedup}
use Rattle.std.proofs.lemmas.List.Sorted.{Contains-permutation}
use Rattle.std.proofs.lemmas.Slice.{between_is}
use Rattle.hg_base.specs.declared.rid.Rid.{Rid}
use Rattle.hg_base.specs.declared.report.Kind.TheVariants.{Group}
use Rattle.hg_base.specs.Lists.{Each}
use Rattle.hg_base.specs.History.{same_rid}
use Rattle.hg_base.proofs.HistoryFacts.{same_rid_equal}
use Rattle.hg_base.proofs.ListFacts.{each_at}
use Rattle.hg_base.proofs.RidOrder.{rids_equiv}
use Rattle.hg_core.specs.declared.visit.Visit.{Visit}
use Rattle.hg_rule.specs.declared.view.Event.{Event}
use Rattle.hg_rule.specs.declared.view.View.{View}
use Rattle.hg_rule.specs.Views.{number, pass, HasPass}
use Rattle.hg_rule.proofs.Growing.{among_later}
use Rattle.hg_rule.proofs.Lists.{each_map, among_left}
use Rattle.hg_rule.proofs.Rounds.{gone_on, takes_on}
use Rattle.hg_rounds.proofs.Going.{same_pass, goes_none, goes_on}
use Rattle.hg_collectors.specs.Cutting.{WasCut, CutsAll}

module _ (buckets p mark round bound : ℕ) (r : Rid) (visits more : List Visit) (steps later : List Event) where
  -- what was cut earlier
  pub cut_before : WasCut buckets p mark round bound visits steps r → WasCut buckets p mark round bound (more ++ visits) (steps ++ later) r
  cut_before c = record { gone = c.gone; step = among_left _ steps later c.step; all = c.all; given = c.given; visit = among_later _ more visits c.visit; cut = c.cut }

  -- and what is cut then
  pub cut_after : WasCut buckets p mark round bound more later r → WasCut buckets p mark round bound (more ++ visits) (steps ++ later) r
  cut_after c = record { gone = c.gone; step = among_later _ steps later c.step; all = c.all; given = c.given; visit = among_left _ more visits c.visit; cut = c.cut }

each_append : (P : Rid → Type 0) (xs ys : List Rid) → Each P xs → Each P ys → Each P (xs ++ ys)
each_append P [] ys a b = b
each_append P (x ∷ xs) ys a b = (a.0, each_append P xs ys a.1 b)

pub cuts_none : (buckets bound : ℕ) (v : View) → HasPass v → CutsAll buckets bound v [] 0 v
cuts_none buckets bound v own = record { on = goes_none Group v own; gone_is = refl; takes_none = refl; cut = tt }

pub cuts_more : (buckets bound : ℕ) (u v w : View) (xs ys : List Rid) (m n : ℕ) → CutsAll buckets bound u xs m v → CutsAll buckets bound v ys n w → CutsAll buckets bound u (xs ++ ys) (m + n) w
cuts_more buckets bound u v w xs ys m n a b =
    let s = same_pass Group u v a.on in
    let C : Rid → Type 0 = λ r. WasCut buckets (number u) (pass u).mark (pass u).round bound (b.on.visits ++ a.on.visits) (a.on.steps ++ b.on.steps) r in
    let there : Each (WasCut buckets (number u) (pass u).mark (pass u).round bound b.on.visits b.on.steps) ys = subst
    (λ (k : ℕ × (ℕ × ℕ)). Each (WasCut buckets k.0 k.1.0 k.1.1 bound b.on.visits b.on.steps) ys) (λ i. (s.number_is i, (s.mark_is i, s.round_is i))) b.cut in record {
      on = goes_on Group u v w a.on b.on;
      gone_is = let l = gone_on a.on.steps b.on.steps in omega (arith, l, a.gone_is, b.gone_is);
      takes_none = let l = takes_on a.on.steps b.on.steps in omega (arith, l, a.takes_none, b.takes_none);
      cut = each_append C xs ys
          (each_map _ C (λ r c. cut_before buckets (number u) (pass u).mark (pass u).round bound r a.on.visits b.on.visits a.on.steps b.on.steps c) xs a.cut)
          (each_map _ C (λ r c. cut_after buckets (number u) (pass u).mark (pass u).round bound r a.on.visits b.on.visits a.on.steps b.on.steps c) ys there);
    }

-- ---- in another order, and each once

here : (x : Rid) (xs : List Rid) → Contains (x ∷ xs) x
here x xs = (0, omega arith, refl)

there : (x r : Rid) (xs : List Rid) → Contains xs r → Contains (x ∷ xs) r
there x r xs (k, within, e) = (suc k, omega (arith, within), e)

each_from : (P : Rid → Type 0) (xs : List Rid) → ((r : Rid) → Contains xs r → P r) → Each P xs
each_from P [] f = tt
each_from P (x ∷ xs) f = (f x (here x xs), each_from P xs (λ r h. f r (there x r xs h)))

pub cuts_listed : (buckets bound : ℕ) (v w : View) (old sorted left : List Rid) (n : ℕ) → IsPermutation old sorted → left ≡ dedup same_rid sorted →
    CutsAll buckets bound v left n w → CutsAll buckets bound v old n w
cuts_listed buckets bound v w old sorted left n moved is c = record {
  on = c.on;
  gone_is = c.gone_is;
  takes_none = c.takes_none;
  cut = each_from P old (λ r h. each_at P left r c.cut (subst (λ l. Contains l r) (sym is) (Contains-dedup rids_equiv same_rid_equal sorted r (Contains-permutation old sorted r moved h))));
}
  where
    P : Rid → Type 0
    P r = WasCut buckets (number v) (pass v).mark (pass v).round bound c.on.visits c.on.steps r

-- ---- one run more

take_take : (xs : List Rid) (i j : ℕ) → i ≤ j → take i (take j xs) ≡ take i xs
take_take [] zero zero le = refl
take_take [] zero (suc j) le = refl
take_take [] (suc i) zero le = refl
take_take [] (suc i) (suc j) le = refl
take_take (x ∷ xs) zero zero le = refl
take_take (x ∷ xs) zero (suc j) le = refl
take_take (x ∷ xs) (suc i) zero le = absurd (omega (arith, le))
take_take (x ∷ xs) (suc i) (suc j) le = ap (λ l. x ∷ l) (take_take xs i j (omega (arith, le)))

pub run_more : (xs : List Rid) (i j : ℕ) → i ≤ j → take i xs ++ between i j xs ≡ take j xs
run_more xs i j le = (λ k. sym (take_take xs i j le) k ++ between_is xs i j k) ∙ take-append-drop i (take j xs)

pub first_of : (P : Rid → Type 0) (xs : List Rid) (d : Rid) → 0 < length xs → Each P xs → P (get_or xs 0 d)
first_of P [] d l h = absurd (omega (arith, l))
first_of P (x ∷ xs) d l h = h.0
