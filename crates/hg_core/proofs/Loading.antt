-- What a record has of a session, where one entry changes.
use Rattle.std.proofs.Common.{◌≡◌, ℕ, List, [], ◌∷◌, Option, Some, Bool, true, false, ◌==◌, refl, ap, ◌∙◌, subst, arith}
use Rattle.std.specs.Prelude.{if◌then◌else◌, IfSome}
use Rattle.std.proofs.lemmas.Bool.Decides.{nat_tests}
use Rattle.hg_base.specs.Lists.{Each}
use Rattle.hg_core.specs.declared.loaded.Loaded.{Loaded}
use Rattle.hg_core.specs.Passes.{found}
use Rattle.hg_core.specs.Events.{changed_in}
use Rattle.hg_core.proofs.Indices.{at_index}

-- what holds of each entry holds of what is found
pub found_each : (P : Loaded → Type 0) (j : ℕ) (loaded : List (ℕ × Loaded)) → Each (λ e. P e.1) loaded → IfSome (found j loaded) P
found_each P j [] h = tt
found_each P j (e ∷ loaded) h = go (j == e.0) (found_each P j loaded h.1)
  where
    go : (b : Bool) → IfSome (found j loaded) P → IfSome (if b then Some e.1 else found j loaded) P
    go true later = h.0
    go false later = later

-- what holds of what may be found holds of what is found
pub found_one : (P : Loaded → Type 0) (o : Option Loaded) (one : Loaded) → o ≡ Some one → IfSome o P → P one
found_one P o one e h = subst (λ x. IfSome x P) e h

-- the others' entries stay as they are
found_else : (change : Loaded → Loaded) (j k : ℕ) (loaded : List (ℕ × Loaded)) → (k ≡ j → ⊥) → found k (changed_in change j loaded) ≡ found k loaded
found_else change j k [] other = refl
found_else change j k (e ∷ loaded) other = go (j == e.0) refl (found_else change j k loaded other)
  where
    go : (b : Bool) → (j == e.0) ≡ b → found k (changed_in change j loaded) ≡ found k loaded → found k (if b then (e.0, change e.1) ∷ loaded else e ∷ changed_in change j loaded) ≡ found k (e ∷ loaded)
    go true q later = let out : (k == e.0) ≡ false = grind (arith, nat_tests) in rw out
    go false q later = ap (λ x. if k == e.0 then Some e.1 else x) later

found_here : (change : Loaded → Loaded) (j : ℕ) (one : Loaded) (loaded : List (ℕ × Loaded)) → found j loaded ≡ Some one → found j (changed_in change j loaded) ≡ Some (change one)
found_here change j one [] f = cc
found_here change j one (e ∷ loaded) f = go (j == e.0) refl f (λ x. found_here change j one loaded x)
  where
    go : (b : Bool) → (j == e.0) ≡ b → (if b then Some e.1 else found j loaded) ≡ Some one → (found j loaded ≡ Some one → found j (changed_in change j loaded) ≡ Some (change one))
        → found j (if b then (e.0, change e.1) ∷ loaded else e ∷ changed_in change j loaded) ≡ Some (change one)
    go true q f later = let same : e.1 ≡ one = cc in ap (λ b. if b then Some (change e.1) else found j loaded) q ∙ ap (λ x. Some (change x)) same
    go false q f later = ap (λ b. if b then Some e.1 else found j (changed_in change j loaded)) q ∙ later f

-- what holds of each session's entry holds where one is changed that keeps it
pub changed_each : (P : ℕ → Loaded → Type 0) (change : Loaded → Loaded) (j : ℕ) (one : Loaded) (loaded : List (ℕ × Loaded)) → found j loaded ≡ Some one → P j (change one) →
    ((k : ℕ) → IfSome (found k loaded) (P k)) → (k : ℕ) → IfSome (found k (changed_in change j loaded)) (P k)
changed_each P change j one loaded f here h = at_index j (λ k. IfSome (found k (changed_in change j loaded)) (P k))
    (rw (found_here change j one loaded f) here)
    (λ k other. rw (found_else change j k loaded other) (h k))
