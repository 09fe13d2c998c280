-- The lists of landmarks, by places.
use Rattle.std.proofs.Common.{◌≡◌, ℕ, zero, suc, ◌<◌, ◌≤◌, List, [], ◌∷◌, ◌++◌, length, set, Result, Ok, Err, refl, sym, ap, ◌∙◌, subst, arith, inl, inr}
use Rattle.std.specs.Prelude.{Vec, slice_index_or, OnErr, ◌⊎◌}
use Rattle.std.specs.declared.alloc.Global.{Global}
use Rattle.std.proofs.lemmas.Bool.{cases_eq}
use Rattle.hg_chains.specs.declared.landmarks.Landmark.{Landmark}
use Rattle.hg_chains.specs.Landmarks.{landmarks_at}

pub read : (ls : List (Vec Landmark Global)) (p : ℕ) (v : Vec Landmark Global) → p < length ls → v ≡ slice_index_or ls p v → landmarks_at ls p ≡ v.items
read [] p v less e = absurd (omega (arith, less))
read (l ∷ ls) zero v less e = sym (ap (λ (w : Vec Landmark Global). w.items) e)
read (l ∷ ls) (suc p) v less e = read ls p v (omega (arith, less)) e

pub past : (ls : List (Vec Landmark Global)) (p : ℕ) → length ls ≤ p → landmarks_at ls p ≡ []
past [] p h = refl
past (l ∷ ls) zero h = absurd (omega (arith, h))
past (l ∷ ls) (suc p) h = past ls p (omega (arith, h))

pub set_here : (ls : List (Vec Landmark Global)) (p : ℕ) (v : Vec Landmark Global) → p < length ls → landmarks_at (set ls p v) p ≡ v.items
set_here [] p v less = absurd (omega (arith, less))
set_here (l ∷ ls) zero v less = refl
set_here (l ∷ ls) (suc p) v less = set_here ls p v (omega (arith, less))

pub set_apart : (ls : List (Vec Landmark Global)) (p : ℕ) (v : Vec Landmark Global) (q : ℕ) → (q ≡ p → ⊥) → landmarks_at (set ls p v) q ≡ landmarks_at ls q
set_apart [] p v q h = refl
set_apart (l ∷ ls) zero v zero h = absurd (h refl)
set_apart (l ∷ ls) zero v (suc q) h = refl
set_apart (l ∷ ls) (suc p) v zero h = refl
set_apart (l ∷ ls) (suc p) v (suc q) h = set_apart ls p v q (λ e. h (ap suc e))

-- one landmark more
pub set_more : (ls : List (Vec Landmark Global)) (p : ℕ) (l v : Vec Landmark Global) (x : Landmark) → p < length ls → l ≡ slice_index_or ls p l → v.items ≡ l.items ++ x ∷ [] →
    landmarks_at (set ls p v) p ≡ landmarks_at ls p ++ x ∷ []
set_more ls p l v x within e more = set_here ls p v within ∙ more ∙ ap (λ xs. xs ++ x ∷ []) (sym (read ls p l within e))

-- the same landmarks
pub set_same : (ls : List (Vec Landmark Global)) (p : ℕ) (l v : Vec Landmark Global) → p < length ls → l ≡ slice_index_or ls p l → v.items ≡ l.items → (q : ℕ) →
    landmarks_at (set ls p v) q ≡ landmarks_at ls q
set_same ls p l v within e same q = go (cases_eq q p)
  where
    go : (q ≡ p) ⊎ (q ≡ p → ⊥) → landmarks_at (set ls p v) q ≡ landmarks_at ls q
    go (inl here) = subst (λ r. landmarks_at (set ls p v) r ≡ landmarks_at ls r) (sym here) (set_here ls p v within ∙ same ∙ sym (read ls p l within e))
    go (inr apart) = set_apart ls p v q apart

-- a list more, with no landmarks
pub one_longer : (ls : List (Vec Landmark Global)) (v : Vec Landmark Global) (q : ℕ) → v.items ≡ [] → landmarks_at (ls ++ v ∷ []) q ≡ landmarks_at ls q
one_longer [] v zero e = e
one_longer [] v (suc q) e = refl
one_longer (l ∷ ls) v zero e = refl
one_longer (l ∷ ls) v (suc q) e = one_longer ls v q e

pub always_err : {T E : Type 0} (r : Result T E) (P : Type 0) → P → OnErr r P
always_err (Ok x) P p = tt
always_err (Err e) P p = p
