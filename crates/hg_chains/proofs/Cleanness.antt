-- What a sweep leaves is clean: a successor in place of one that has gone only makes a lifetime longer.
use Rattle.std.proofs.Common.{◌≡◌, ℕ, ◌≤◌, List, [], ◌∷◌, Bool, true, false, ◌||◌, Option, Some, None, refl, sym, subst, arith}
use Rattle.std.specs.Prelude.{⊤}
use Rattle.std.specs.Bool.{OnFalse}
use Rattle.std.proofs.lemmas.Bool.Decides.{nat_tests}
use Rattle.hg_base.specs.Lists.{Each}
use Rattle.hg_base.proofs.ListFacts.{cases}
use Rattle.hg_chains.specs.declared.version.Version.{Version}
use Rattle.hg_chains.specs.Versions.{number_in, IsChain}
use Rattle.hg_chains.specs.Sweeps.{with_successors, last_number, swept, IsClean}
use Rattle.hg_base.specs.Lifetimes.{is_within, is_in_use, goes, MayStay}
use Rattle.hg_chains.specs.Merging.{Follows}
use Rattle.hg_chains.proofs.Sweeps.{Under, under_next, under_follows, swept_from, last_after, last_of_all, swept_goes, swept_stays}

more_within : (n u w s : ℕ) (a b : Bool) → u ≤ w → (is_within n u s || a) ≡ true → (a ≡ true → b ≡ true) → (is_within n w s || b) ≡ true
more_within n u w s a b h e f = grind (arith, nat_tests)

in_use_more : (n u w : ℕ) (xs : List ℕ) → u ≤ w → is_in_use xs n u ≡ true → is_in_use xs n w ≡ true
in_use_more n u w [] h e = e
in_use_more n u w (x ∷ xs) h e = more_within n u w x (is_in_use xs n u) (is_in_use xs n w) h e (λ k. in_use_more n u w xs h k)

-- a successor in place of one that has gone is over it
abbrev Later : Option ℕ → Option ℕ → Type 0
Later None None = ⊤
Later (Some u) (Some w) = u ≤ w
Later None (Some w) = ⊥
Later (Some u) None = ⊥

later_itself : (up : Option ℕ) → Later up up
later_itself None = tt
later_itself (Some u) = omega arith

stays_in_use : (horizon u n : ℕ) (xs : List ℕ) → goes horizon xs (Some u) (Some n) ≡ false → u ≤ horizon → is_in_use xs n u ≡ true
stays_in_use horizon u n xs e h = grind (arith, nat_tests)

pub may_stay : (horizon : ℕ) (xs : List ℕ) (up kept n : Option ℕ) → Later up kept → goes horizon xs up n ≡ false → MayStay horizon xs kept n
may_stay horizon xs None None n l e = tt
may_stay horizon xs None (Some w) n l e = absurd l
may_stay horizon xs (Some u) None n l e = tt
may_stay horizon xs (Some u) (Some w) None l e = tt
may_stay horizon xs (Some u) (Some w) (Some n) l e = λ h. let low : u ≤ horizon = omega (arith, h, l) in in_use_more n u w xs l (stays_in_use horizon u n xs e low)

later_gone : (horizon : ℕ) (xs : List ℕ) (up kept n : Option ℕ) → Later up kept → Follows up n → goes horizon xs up n ≡ true → Later n kept
later_gone horizon xs None kept n l f e = cc
later_gone horizon xs (Some u) kept None l f e = absurd f
later_gone horizon xs (Some u) None (Some n) l f e = absurd l
later_gone horizon xs (Some u) (Some w) (Some n) l f e = omega (arith, l, f)

abbrev IsCleanFrom : ℕ → List ℕ → Option ℕ → List Version → Type 0
IsCleanFrom horizon xs up vs = Each (λ p. MayStay horizon xs p.0 (number_in p.1.stamp)) (with_successors up vs)

clean_swept : (horizon : ℕ) (xs : List ℕ) (up kept : Option ℕ) (vs : List Version) → Under up vs → IsChain vs → Later up kept → IsCleanFrom horizon xs kept (swept_from horizon xs up vs)
clean_swept horizon xs up kept [] u h l = tt
clean_swept horizon xs up kept (v ∷ vs) u h l =
    let below = under_next v.stamp vs h.0 in
    cases (goes horizon xs up (number_in v.stamp))
    (λ e. subst (IsCleanFrom horizon xs kept) (sym (swept_goes horizon xs up v vs e))
    (clean_swept horizon xs (number_in v.stamp) kept vs below h.1 (later_gone horizon xs up kept (number_in v.stamp) l (under_follows up v vs u) e)))
    (λ e. subst (IsCleanFrom horizon xs kept) (sym (swept_stays horizon xs up v vs e))
    (may_stay horizon xs up kept (number_in v.stamp) l e, clean_swept horizon xs (number_in v.stamp) (number_in v.stamp) vs below h.1 (later_itself (number_in v.stamp))))

-- the last version that is left is the last that was, or over it
pub last_later : (horizon : ℕ) (xs : List ℕ) (up kept : Option ℕ) (vs : List Version) → Under up vs → IsChain vs → Later up kept →
    Later (last_after up vs) (last_after kept (swept_from horizon xs up vs))
last_later horizon xs up kept [] u h l = l
last_later horizon xs up kept (v ∷ vs) u h l =
    let below = under_next v.stamp vs h.0 in
    cases (goes horizon xs up (number_in v.stamp))
    (λ e. subst (λ ws. Later (last_after (number_in v.stamp) vs) (last_after kept ws)) (sym (swept_goes horizon xs up v vs e))
    (last_later horizon xs (number_in v.stamp) kept vs below h.1 (later_gone horizon xs up kept (number_in v.stamp) l (under_follows up v vs u) e)))
    (λ e. subst (λ ws. Later (last_after (number_in v.stamp) vs) (last_after kept ws)) (sym (swept_stays horizon xs up v vs e))
    (last_later horizon xs (number_in v.stamp) (number_in v.stamp) vs below h.1 (later_itself (number_in v.stamp))))

pub all_clean : (horizon : ℕ) (xs : List ℕ) (vs : List Version) → IsChain vs → IsClean horizon xs (swept horizon xs vs)
all_clean horizon xs vs h = clean_swept horizon xs None None vs tt h tt

pub base_stays : (horizon : ℕ) (xs : List ℕ) (base : Option ℕ) (vs : List Version) → IsChain vs →
    OnFalse (goes horizon xs (last_number vs) base) (MayStay horizon xs (last_number (swept horizon xs vs)) base)
base_stays horizon xs base vs h = go (goes horizon xs (last_number vs) base) (may_stay horizon xs (last_number vs) (last_number (swept horizon xs vs)) base later)
  where
    later : Later (last_number vs) (last_number (swept horizon xs vs))
    later = subst (λ n. Later n (last_number (swept horizon xs vs))) (last_of_all vs)
        (subst (Later (last_after None vs)) (last_of_all (swept horizon xs vs)) (last_later horizon xs None None vs tt h tt))

    go : (b : Bool) → (b ≡ false → MayStay horizon xs (last_number (swept horizon xs vs)) base) → OnFalse b (MayStay horizon xs (last_number (swept horizon xs vs)) base)
    go true f = tt
    go false f = f refl
