-- Records whose places go on from the first: the one of a place is found by its index.
use Rattle.std.proofs.Common.{◌≡◌, ◌<◌, ◌+◌, ℕ, zero, suc, List, [], ◌∷◌, length, get_or, Bool, true, false, ◌==◌, ◌&&◌, Option, Some, None, refl, inl, inr, arith}
use Rattle.std.specs.Prelude.{find, if◌then◌else◌}
use Rattle.std.proofs.lemmas.Bool.{cases_Bool, eqb-true}
use Rattle.std.proofs.lemmas.Bool.Decides.{nat_tests}
use Rattle.hg_base.specs.declared.statement.Record.{Record}

-- the first stands at this place, and the others behind it
abbrev pub GoOn : ℕ → List Record → Type 0
GoOn first records = (i : ℕ) (d : Record) → i < length records → (get_or records i d).place ≡ first + i

behind : (first : ℕ) (r : Record) (rs : List Record) → GoOn first (r ∷ rs) → GoOn (first + 1) rs
behind first r rs h i d less = let is = h (suc i) d (omega (arith, less)) in omega (arith, is)

module _ (session place : ℕ) where
  abbrev pub is_it : Record → Bool
  is_it r = (r.place == place) && (r.session == session)

  other : (r : Record) → (r.place ≡ place → ⊥) → is_it r ≡ false
  other r h = let differ : (r.place == place) ≡ false = grind (arith, nat_tests, h) in rw differ refl

  pub found_none : (first : ℕ) (records : List Record) → GoOn first records → ((i : ℕ) → i < length records → place ≡ first + i → ⊥) → find is_it records ≡ None
  found_none first [] h none = refl
  found_none first (r ∷ rs) h none =
      let here = h 0 r (omega arith) in
      rw (other r (λ e. none 0 (omega arith) (omega (arith, here, e))))
      (found_none (first + 1) rs (behind first r rs h) (λ i less e. none (suc i) (omega (arith, less)) (omega (arith, e))))

  abbrev pub if_it : Record → Option Record
  if_it r = if is_it r then Some r else None

  pub found : (first : ℕ) (records : List Record) (i : ℕ) (d : Record) → GoOn first records → i < length records → place ≡ first + i → find is_it records ≡ if_it (get_or records i d)
  found first [] i d h less is = absurd (omega (arith, less))
  found first (r ∷ rs) zero d h less is = elim (cases_Bool (is_it r)) [
    | inl it ↦ rw it refl
    | inr not_it ↦ rw (not_it, found_none (first + 1) rs (behind first r rs h) (λ k below e. omega (arith, is, e))) refl
  ]
  found first (r ∷ rs) (suc i) d h less is =
      let here = h 0 r (omega arith) in
      rw (other r (λ e. omega (arith, here, is, e))) (found (first + 1) rs i d (behind first r rs h) (omega (arith, less)) (omega (arith, is)))

  pub here : (r : Record) → r.place ≡ place → r.session ≡ session → is_it r ≡ true
  here r p s = grind (arith, nat_tests, p, s)

  pub elsewhere : (r : Record) → (r.place ≡ place → r.session ≡ session → ⊥) → is_it r ≡ false
  elsewhere r h = elim (cases_Bool (r.place == place)) [
    | inr differ ↦ rw differ refl
    | inl same ↦ elim (cases_Bool (r.session == session)) [
      | inr other ↦ rw (same, other) refl
      | inl too ↦ absurd (h (eqb-true r.place place same) (eqb-true r.session session too))
    ]
  ]
