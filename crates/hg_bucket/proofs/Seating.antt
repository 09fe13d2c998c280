-- Places, one by one: one is set, given, or given back.
use Rattle.std.proofs.Common.{◌≡◌, ℕ, zero, suc, List, [], ◌∷◌, ◌++◌, length, Bool, true, false, Option, Some, None, refl, sym, ap, ◌∙◌, cond, subst, set, slice_get, inl, inr}
use Rattle.std.specs.Prelude.{◌≢◌, ◌⊎◌, IsSome, is_some, option_and_then}
use Rattle.std.specs.Bool.{OnTrue, OnFalse}
use Rattle.std.proofs.lemmas.Bool.{cases_eq}
use Rattle.std.proofs.lemmas.Option.{none-some}
use Rattle.hg_space.specs.Places.{Seat, free, taken, has_free, image_at, IsTaken}
use Rattle.hg_bucket.specs.Parts.{seat_at, AreAlike, IsGiven}

-- what is so of a place and of each other one is so of all
pub each_place : (P : ℕ → Type 0) (p q : ℕ) → P p → (q ≢ p → P q) → P q
each_place P p q here there = go (cases_eq q p)
  where
    go : (q ≡ p) ⊎ (q ≢ p) → P q
    go (inl e) = subst P (sym e) here
    go (inr apart) = there apart

pub same_image : (old new : List Seat) (q : ℕ) → seat_at new q ≡ seat_at old q → image_at new q ≡ image_at old q
same_image old new q e = ap (option_and_then (λ oldest. oldest)) e

pub not_taken : (places : List Seat) (p : ℕ) → seat_at places p ≡ free → IsTaken places p → ⊥
not_taken places p e t = let k = subst IsSome e t in absurd cc

-- ---- one is set

pub seat_apart : (places : List Seat) (p q : ℕ) (x : Seat) → q ≢ p → seat_at (set places p x) q ≡ seat_at places q
seat_apart [] p q x h = refl
seat_apart (y ∷ places) zero zero x h = absurd (h refl)
seat_apart (y ∷ places) zero (suc q) x h = refl
seat_apart (y ∷ places) (suc p) zero x h = refl
seat_apart (y ∷ places) (suc p) (suc q) x h = seat_apart places p q x (λ e. h (ap suc e))

pub seat_here : (places : List Seat) (p : ℕ) (x : Seat) → IsTaken places p → seat_at (set places p x) p ≡ x
seat_here [] p x t = absurd (let k = t in cc)
seat_here (y ∷ places) zero x t = refl
seat_here (y ∷ places) (suc p) x t = seat_here places p x t

pub freed_here : (places : List Seat) (p : ℕ) → seat_at (set places p free) p ≡ free
freed_here [] p = refl
freed_here (y ∷ places) zero = refl
freed_here (y ∷ places) (suc p) = freed_here places p

-- ---- one is given

free_get : (places : List Seat) (p : ℕ) (x : Seat) → slice_get places p ≡ Some x → seat_at places p ≡ x
free_get [] p x h = absurd (none-some x h)
free_get (y ∷ places) zero x h = ap (λ o. seat_of o) h
  where
    seat_of : Option Seat → Seat
    seat_of None = free
    seat_of (Some z) = z
free_get (y ∷ places) (suc p) x h = free_get places p x h

free_past : (places : List Seat) → seat_at places (length places) ≡ free
free_past [] = refl
free_past (y ∷ places) = free_past places

set_here : (places : List Seat) (p : ℕ) (x y : Seat) → slice_get places p ≡ Some y → seat_at (set places p x) p ≡ x
set_here [] p x y h = absurd (none-some y h)
set_here (z ∷ places) zero x y h = refl
set_here (z ∷ places) (suc p) x y h = set_here places p x y h

appended_here : (places : List Seat) (x : Seat) → seat_at (places ++ x ∷ []) (length places) ≡ x
appended_here [] x = refl
appended_here (y ∷ places) x = appended_here places x

appended_apart : (places : List Seat) (q : ℕ) (x : Seat) → q ≢ length places → seat_at (places ++ x ∷ []) q ≡ seat_at places q
appended_apart [] zero x h = absurd (h refl)
appended_apart [] (suc q) x h = refl
appended_apart (y ∷ places) zero x h = refl
appended_apart (y ∷ places) (suc q) x h = appended_apart places q x (λ e. h (ap suc e))

pub given : (places seats : List Seat) (p : ℕ) → OnTrue (has_free places) (slice_get places p ≡ Some free) → OnFalse (has_free places) (p ≡ length places) →
    seats ≡ cond (has_free places) (set places p (taken None)) (places ++ taken None ∷ []) → IsGiven places seats p
given places seats p was_free is_added is_set = subst (λ ps. IsGiven places ps p) (sym is_set) (go (has_free places) was_free is_added)
  where
    go : (any : Bool) → OnTrue any (slice_get places p ≡ Some free) → OnFalse any (p ≡ length places) → IsGiven places (cond any (set places p (taken None)) (places ++ taken None ∷ [])) p
    go true a b = record { was = free_get places p free a; now = set_here places p (taken None) free a; others = λ q apart. seat_apart places p q (taken None) apart }
    go false a b =
        subst (IsGiven places (places ++ taken None ∷ [])) (sym b)
        (record { was = free_past places; now = appended_here places (taken None); others = λ q apart. appended_apart places q (taken None) apart })

pub given_taken : (places seats : List Seat) (p : ℕ) → IsGiven places seats p → IsTaken seats p
given_taken places seats p g = ap is_some g.now

-- given back, all are as before
pub given_back : (places seats back : List Seat) (p : ℕ) → IsGiven places seats p → back ≡ set seats p free → AreAlike places back
given_back places seats back p g e q =
    ap (λ ps. seat_at ps q) e
    ∙ each_place (λ n. seat_at (set seats p free) n ≡ seat_at places n) p q (freed_here seats p ∙ sym g.was) (λ apart. seat_apart seats p q free apart ∙ g.others q apart)
