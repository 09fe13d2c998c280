-- Places stay taken where another is taken.
use Rattle.std.proofs.Common.{◌≡◌, ℕ, zero, suc, List, [], ◌∷◌, ◌++◌, length, Bool, true, false, Some, None, refl, sym, cond, subst, set, slice_get}
use Rattle.std.specs.Prelude.{IsSome}
use Rattle.std.specs.Bool.{OnTrue, OnFalse}
use Rattle.std.proofs.lemmas.Option.{none-some}
use Rattle.hg_space.specs.Places.{Seat, free, taken, has_free, IsTaken, Oldest}

-- neither a free place nor one past the end is taken
pub free_not_taken : (places : List Seat) (p : ℕ) → slice_get places p ≡ Some free → IsTaken places p → ⊥
free_not_taken [] p h t = absurd (none-some _ h)
free_not_taken (x ∷ places) zero h t = absurd (let k = h in let j = t in let e : x ≡ free = cc in let n = subst IsSome e j in cc)
free_not_taken (x ∷ places) (suc p) h t = free_not_taken places p h t

pub past_not_taken : (places : List Seat) (p : ℕ) → p ≡ length places → IsTaken places p → ⊥
past_not_taken places p e t = at_end places (subst (IsTaken places) e t)
  where
    at_end : (ps : List Seat) → IsTaken ps (length ps) → ⊥
    at_end [] t = absurd (let k = t in cc)
    at_end (x ∷ ps) t = at_end ps t

pub given_not_taken : (places : List Seat) (p : ℕ) → OnTrue (has_free places) (slice_get places p ≡ Some free) → OnFalse (has_free places) (p ≡ length places) → IsTaken places p → ⊥
given_not_taken places p a b = go (has_free places) a b
  where
    go : (any : Bool) → OnTrue any (slice_get places p ≡ Some free) → OnFalse any (p ≡ length places) → IsTaken places p → ⊥
    go true a b = free_not_taken places p a
    go false a b = past_not_taken places p b

pub set_taken : (places : List Seat) (p q : ℕ) (x : Oldest) → IsTaken places q → IsTaken (set places p (taken x)) q
set_taken [] p q x t = t
set_taken (y ∷ places) zero zero x t = refl
set_taken (y ∷ places) zero (suc q) x t = t
set_taken (y ∷ places) (suc p) zero x t = t
set_taken (y ∷ places) (suc p) (suc q) x t = set_taken places p q x t

pub added_taken : (places : List Seat) (q : ℕ) (x : Oldest) → IsTaken places q → IsTaken (places ++ taken x ∷ []) q
added_taken [] q x t = absurd (let k = t in cc)
added_taken (y ∷ places) zero x t = t
added_taken (y ∷ places) (suc q) x t = added_taken places q x t

pub stays_taken : (places new : List Seat) (p : ℕ) → new ≡ cond (has_free places) (set places p (taken None)) (places ++ taken None ∷ []) → (q : ℕ) → IsTaken places q → IsTaken new q
stays_taken places new p e q t = subst (λ ps. IsTaken ps q) (sym e) (go (has_free places))
  where
    go : (any : Bool) → IsTaken (cond any (set places p (taken None)) (places ++ taken None ∷ [])) q
    go true = set_taken places p q None t
    go false = added_taken places q None t

-- a place that is given is taken
pub free_is_set : (places : List Seat) (p : ℕ) (x : Oldest) → slice_get places p ≡ Some free → IsTaken (set places p (taken x)) p
free_is_set [] p x h = absurd (none-some _ h)
free_is_set (y ∷ places) zero x h = refl
free_is_set (y ∷ places) (suc p) x h = free_is_set places p x h

pub last_is_added : (places : List Seat) (x : Oldest) → IsTaken (places ++ taken x ∷ []) (length places)
last_is_added [] x = refl
last_is_added (y ∷ places) x = last_is_added places x

pub given_is_taken : (places new : List Seat) (p : ℕ) → OnTrue (has_free places) (slice_get places p ≡ Some free) → OnFalse (has_free places) (p ≡ length places) →
    new ≡ cond (has_free places) (set places p (taken None)) (places ++ taken None ∷ []) → IsTaken new p
given_is_taken places new p a b e = subst (λ ps. IsTaken ps p) (sym e) (go (has_free places) a b)
  where
    go : (any : Bool) → OnTrue any (slice_get places p ≡ Some free) → OnFalse any (p ≡ length places) → IsTaken (cond any (set places p (taken None)) (places ++ taken None ∷ [])) p
    go true a b = free_is_set places p None a
    go false a b = subst (λ q. IsTaken (places ++ taken None ∷ []) q) (sym b) (last_is_added places None)
