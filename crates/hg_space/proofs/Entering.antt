-- Which places stand in lists, where records enter and leave.
use Rattle.std.proofs.Common.{◌≡◌, ℕ, zero, suc, ◌+◌, ◌<◌, List, [], ◌∷◌, ◌++◌, length, Bool, true, false, Result, Ok, Err, Some, refl, sym, ap, ◌∙◌, subst, arith, slice_get, ◌⊎◌, inl, inr}
use Rattle.std.specs.Prelude.{OnOk, OnErr, ◌==◌, ◌↔◌}
use Rattle.std.proofs.lemmas.Bool.Decides.{nat_tests}
use Rattle.hg_space.specs.declared.roster.Listed.{Listed}
use Rattle.hg_space.specs.Rosters.{list_of, Has, StandsIn}
use Rattle.hg_space.proofs.RosterFacts.{get_push}

pub get_more : {X : Type 0} (xs : List X) (y e : X) (at : ℕ) → slice_get xs at ≡ Some e → slice_get (xs ++ y ∷ []) at ≡ Some e
get_more [] y e at h = absurd (let k = h in cc)
get_more (x ∷ xs) y e zero h = h
get_more (x ∷ xs) y e (suc at) h = get_more xs y e at h

pub get_last : {X : Type 0} (xs : List X) (y : X) → slice_get (xs ++ y ∷ []) (length xs) ≡ Some y
get_last [] y = refl
get_last (x ∷ xs) y = get_last xs y

-- what a call of `enter` says
pub record Enters {E : Type 0} (r : Result (Unit {0}) E) (vs ws : List (List Listed)) (t : ℕ) (x : Listed) : Type 0 where
  pub last : OnOk r (list_of ws t ≡ list_of vs t ++ x ∷ [])
  pub others : (u : ℕ) → (u ≡ t → ⊥) → list_of ws u ≡ list_of vs u
  pub refused : OnErr r (ws ≡ vs)

-- the places that stood stand
pub still_in : {E : Type 0} (r : Result (Unit {0}) E) (vs ws : List (List Listed)) (t : ℕ) (x : Listed) → Enters r vs ws t x → (u p : ℕ) → StandsIn (list_of vs u) p → StandsIn (list_of ws u) p
still_in (Err e) vs ws t x h u p k = subst (λ ls. StandsIn (list_of ls u) p) (sym h.refused) k
still_in (Ok y) vs ws t x h u p k = go (u == t) refl
  where
    go : (b : Bool) → (u == t) ≡ b → StandsIn (list_of ws u) p
    go false e = subst (λ xs. StandsIn xs p) (sym (h.others u (λ is. grind (arith, nat_tests, e, is)))) k
    go true e =
        let is : u ≡ t = grind (arith, nat_tests, e) in
        let there = ap (λ v. slice_get (list_of vs v) k.1.0.0) (sym is) ∙ k.1.0.1 in
        let now : slice_get (list_of ws t) k.1.0.0 ≡ Some k.0 = ap (λ xs. slice_get xs k.1.0.0) h.last ∙ get_more (list_of vs t) x k.0 k.1.0.0 there in
        (k.0, ((k.1.0.0, ap (λ v. slice_get (list_of ws v) k.1.0.0) is ∙ now), k.1.1))

-- and that of the record
pub one_in : {E : Type 0} (r : Result (Unit {0}) E) (vs ws : List (List Listed)) (t : ℕ) (x : Listed) → Enters r vs ws t x → OnOk r (StandsIn (list_of ws t) x.place)
one_in (Err e) vs ws t x h = tt
one_in (Ok y) vs ws t x h = (x, ((length (list_of vs t), ap (λ xs. slice_get xs (length (list_of vs t))) h.last ∙ get_last (list_of vs t) x), refl))

-- and no others
pub none_else : {E : Type 0} (r : Result (Unit {0}) E) (vs ws : List (List Listed)) (t : ℕ) (x : Listed) → Enters r vs ws t x →
    OnOk r ((u p : ℕ) → StandsIn (list_of ws u) p → StandsIn (list_of vs u) p ⊎ (p ≡ x.place))
none_else (Err e) vs ws t x h = tt
none_else (Ok y) vs ws t x h = λ u p k. go u p k (u == t) refl
  where
    go : (u p : ℕ) → StandsIn (list_of ws u) p → (b : Bool) → (u == t) ≡ b → StandsIn (list_of vs u) p ⊎ (p ≡ x.place)
    go u p k false e = inl (subst (λ xs. StandsIn xs p) (h.others u (λ is. grind (arith, nat_tests, e, is))) k)
    go u p k true e = by (get_push (list_of vs t) x k.0 k.1.0.0 now)
      where
        is : u ≡ t
        is = grind (arith, nat_tests, e)

        now : slice_get (list_of vs t ++ x ∷ []) k.1.0.0 ≡ Some k.0
        now = ap (λ xs. slice_get xs k.1.0.0) (sym h.last) ∙ ap (λ v. slice_get (list_of ws v) k.1.0.0) (sym is) ∙ k.1.0.1

        by : (slice_get (list_of vs t) k.1.0.0 ≡ Some k.0) ⊎ ((k.1.0.0 ≡ length (list_of vs t)) × (k.0 ≡ x)) → StandsIn (list_of vs u) p ⊎ (p ≡ x.place)
        by (inl there) = inl (k.0, ((k.1.0.0, ap (λ v. slice_get (list_of vs v) k.1.0.0) is ∙ there), k.1.1))
        by (inr last) = inr (sym k.1.1 ∙ ap (λ (z : Listed). z.place) last.1)

pub all_below : {E : Type 0} (r : Result (Unit {0}) E) (vs ws : List (List Listed)) (t : ℕ) (x : Listed) → Enters r vs ws t x →
    ((u p : ℕ) → StandsIn (list_of vs u) p → p < x.place) → OnOk r ((u p : ℕ) → StandsIn (list_of ws u) p → p < x.place + 1)
all_below (Err e) vs ws t x h below = tt
all_below (Ok y) vs ws t x h below = λ u p k. go u p (none_else (Ok y) vs ws t x h u p k)
  where
    go : (u p : ℕ) → StandsIn (list_of vs u) p ⊎ (p ≡ x.place) → p < x.place + 1
    go u p (inl k) = omega (arith, below u p k)
    go u p (inr e) = omega (arith, e)

-- where one leaves, the others stay
pub stays_in : (xs ys : List Listed) (place p : ℕ) → ((e : Listed) → Has ys e ↔ (Has xs e × (e.place ≡ place → ⊥))) → (p ≡ place → ⊥) → StandsIn xs p → StandsIn ys p
stays_in xs ys place p h apart k = (k.0, ((h k.0).1 (k.1.0, λ same. apart (sym k.1.1 ∙ same)), k.1.1))
