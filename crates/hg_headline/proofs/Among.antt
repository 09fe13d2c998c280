-- Records among others.
use Rattle.std.proofs.Common.{◌≡◌, ◌⊎◌, inl, inr, ℕ, zero, suc, ◌≤◌, List, [], ◌∷◌, ◌++◌, length, Bool, true, false, not, refl, sym, ap, ◌∙◌, subst, arith, length-append}
use Rattle.std.proofs.lemmas.Bool.Decides.{nat_tests}
use Rattle.std.specs.Prelude.{◌||◌, ◌<◌, ◌+◌, cond, filter, if◌then◌else◌, nat_le}
use Rattle.hg_base.specs.declared.rid.Rid.{Rid}
use Rattle.hg_base.specs.History.{same_rid, is_among, NoneTwice}
use Rattle.hg_base.specs.Counts.{once}
use Rattle.hg_base.proofs.ListFacts.{any_more, false_true}
use Rattle.hg_base.proofs.HistoryFacts.{same_rid_equal, same_rid_itself}
use Rattle.hg_core.specs.Sums.{sum_to}
use Rattle.hg_headline.proofs.Undone.{take_out, take_out_has}

pub either_or : (a b : Bool) → (a || b) ≡ true → (a ≡ true) ⊎ (b ≡ true)
either_or true b e = inl refl
either_or false b e = inr e

pub or_right : (a b : Bool) → b ≡ true → (a || b) ≡ true
or_right true b e = refl
or_right false b e = e

-- ---- among records

pub among_first : (r : Rid) (rs : List Rid) → is_among r (r ∷ rs) ≡ true
among_first r rs = ap (λ b. b || is_among r rs) (same_rid_itself r)

pub among_right : (r : Rid) (xs ys : List Rid) → is_among r ys ≡ true → is_among r (xs ++ ys) ≡ true
among_right r [] ys e = e
among_right r (x ∷ xs) ys e = or_right (same_rid r x) (is_among r (xs ++ ys)) (among_right r xs ys e)

pub among_either : (r : Rid) (xs ys : List Rid) → is_among r (xs ++ ys) ≡ true → (is_among r xs ≡ true) ⊎ (is_among r ys ≡ true)
among_either r [] ys e = inr e
among_either r (x ∷ xs) ys e = go (same_rid r x) e (λ k. among_either r xs ys k)
  where
    go : (b : Bool) → (b || is_among r (xs ++ ys)) ≡ true → (is_among r (xs ++ ys) ≡ true → (is_among r xs ≡ true) ⊎ (is_among r ys ≡ true)) → ((b || is_among r xs) ≡ true) ⊎ (is_among r ys ≡ true)
    go true e later = inl refl
    go false e later = later e

-- one that is there is taken out
shorter : (q : Rid) (rs : List Rid) → is_among q rs ≡ true → suc (length (take_out q rs)) ≤ length rs
shorter q [] e = absurd (false_true e)
shorter q (r ∷ rs) e = go (same_rid q r) e (most rs) (λ k. shorter q rs k)
  where
    most : (rs : List Rid) → length (take_out q rs) ≤ length rs
    most [] = omega arith
    most (r ∷ rs) = step (same_rid q r) (most rs)
      where
        step : (b : Bool) → length (take_out q rs) ≤ length rs → length (cond (not b) (r ∷ take_out q rs) (take_out q rs)) ≤ suc (length rs)
        step true le = omega (arith, le)
        step false le = omega (arith, le)

    go : (b : Bool) → (b || is_among q rs) ≡ true → length (take_out q rs) ≤ length rs → (is_among q rs ≡ true → suc (length (take_out q rs)) ≤ length rs) →
        suc (length (cond (not b) (r ∷ take_out q rs) (take_out q rs))) ≤ suc (length rs)
    go true e le later = omega (arith, le)
    go false e le later = (let k = later e in omega (arith, k))

-- records that stand once, each of which is among others, are no more than those
pub no_more : (xs ys : List Rid) → NoneTwice xs → ((r : Rid) → is_among r xs ≡ true → is_among r ys ≡ true) → length xs ≤ length ys
no_more [] ys h f = omega arith
no_more (x ∷ xs) ys h f =
    let less = shorter x ys (f x (among_first x xs)) in
    let rest = no_more xs (take_out x ys) h.1 (λ r e. others r (same_rid r x) refl e) in
    omega (arith, less, rest)
  where
    others : (r : Rid) (b : Bool) → same_rid r x ≡ b → is_among r xs ≡ true → is_among r (take_out x ys) ≡ true
    others r true p e = absurd (false_true (sym h.0 ∙ ap (λ k. is_among k xs) (sym (same_rid_equal r x p)) ∙ e))
    others r false p e = take_out_has r x ys ∙ ap (λ b. if b then false else is_among r ys) p ∙ f r (or_right (same_rid r x) (is_among r xs) e)

-- what is among those that pass is among all, and passes
pub among_passing : (p : Rid → Bool) (r : Rid) (rs : List Rid) → is_among r (filter p rs) ≡ true → p r ≡ true
among_passing p r [] e = absurd (false_true e)
among_passing p r (q ∷ rs) e = go (p q) refl e (λ k. among_passing p r rs k)
  where
    go : (b : Bool) → p q ≡ b → is_among r (cond b (q ∷ filter p rs) (filter p rs)) ≡ true → (is_among r (filter p rs) ≡ true → p r ≡ true) → p r ≡ true
    go true t e later = here (same_rid r q) refl e
      where
        here : (b : Bool) → same_rid r q ≡ b → (b || is_among r (filter p rs)) ≡ true → p r ≡ true
        here true s e = ap p (same_rid_equal r q s) ∙ t
        here false s e = later e
    go false t e later = later e

pub among_once : (r : Rid) (rs : List Rid) → is_among r rs ≡ true → is_among r (once rs) ≡ true
among_once r [] e = e
among_once r (q ∷ rs) e = go (same_rid r q) refl e (λ k. among_once r rs k)
  where
    kept : (xs : List Rid) → same_rid r q ≡ false → is_among r xs ≡ true → is_among r (filter (λ other. not (same_rid other q)) xs) ≡ true
    kept [] n e = e
    kept (x ∷ xs) n e = step (same_rid x q) refl (same_rid r x) refl e (λ k. kept xs n k)
      where
        step : (b : Bool) → same_rid x q ≡ b → (c : Bool) → same_rid r x ≡ c → (c || is_among r xs) ≡ true → (is_among r xs ≡ true → is_among r (filter (λ other. not (same_rid other q)) xs) ≡ true) →
            is_among r (cond (not b) (x ∷ filter (λ other. not (same_rid other q)) xs) (filter (λ other. not (same_rid other q)) xs)) ≡ true
        step true s true t e later = absurd (false_true (sym n ∙ ap (λ k. same_rid k q) (same_rid_equal r x t) ∙ s))
        step true s false t e later = later e
        step false s c t e later = ap (λ b. b || is_among r (filter (λ other. not (same_rid other q)) xs)) t ∙ both c e
          where
            both : (c : Bool) → (c || is_among r xs) ≡ true → (c || is_among r (filter (λ other. not (same_rid other q)) xs)) ≡ true
            both true e = refl
            both false e = later e

    go : (b : Bool) → same_rid r q ≡ b → (b || is_among r rs) ≡ true → (is_among r rs ≡ true → is_among r (once rs) ≡ true) → (b || is_among r (filter (λ other. not (same_rid other q)) (once rs))) ≡ true
    go true s e later = refl
    go false s e later = kept (once rs) s (later e)

-- ---- all sessions together

pub all_to : ℕ → (ℕ → List Rid) → List Rid
all_to zero f = []
all_to (suc n) f = all_to n f ++ f (suc n)

pub all_long : (n : ℕ) (f : ℕ → List Rid) → length (all_to n f) ≡ sum_to n (λ j. length (f j))
unfolding all_to
all_long zero f = refl
all_long (suc n) f = length-append (all_to n f) (f (suc n)) ∙ ap (λ k. k + length (f (suc n))) (all_long n f)

pub all_has : (n j : ℕ) (f : ℕ → List Rid) (r : Rid) → 0 < j → j ≤ n → is_among r (f j) ≡ true → is_among r (all_to n f) ≡ true
unfolding all_to
all_has zero j f r some most e = absurd (omega (arith, some, most))
all_has (suc n) j f r some most e = go (nat_le j n) refl (λ le. all_has n j f r some le e)
  where
    go : (b : Bool) → nat_le j n ≡ b → (j ≤ n → is_among r (all_to n f) ≡ true) → is_among r (all_to n f ++ f (suc n)) ≡ true
    go true q later = any_more (same_rid r) (all_to n f) (f (suc n)) (later (grind (arith, nat_tests)))
    go false q later = among_right r (all_to n f) (f (suc n)) (let same : j ≡ suc n = grind (arith, nat_tests) in subst (λ k. is_among r (f k) ≡ true) same e)
