-- One index of a function given anew.
use Rattle.std.proofs.Common.{◌≡◌, ℕ, Bool, true, false, ◌==◌, refl, ap, subst, arith}
use Rattle.std.specs.Prelude.{if◌then◌else◌}
use Rattle.std.proofs.lemmas.Bool.Decides.{nat_tests}
use Rattle.hg_core.specs.Events.{put}

-- what holds at j where the test passes, and elsewhere where it fails, holds everywhere
pub by_number : (j : ℕ) (Q : ℕ → Bool → Type 0) → Q j true → ((k : ℕ) → (k ≡ j → ⊥) → Q k false) → (k : ℕ) → Q k (k == j)
by_number j Q here there k = go (k == j) refl
  where
    go : (b : Bool) → (k == j) ≡ b → Q k b
    go true e = let same : j ≡ k = grind (arith, nat_tests) in subst (λ x. Q x true) same here
    go false e = there k (grind (arith, nat_tests))

pub at_index : (j : ℕ) (P : ℕ → Type 0) → P j → ((k : ℕ) → (k ≡ j → ⊥) → P k) → (k : ℕ) → P k
at_index j P here there = by_number j (λ k b. P k) here there

pub put_here : {A : Type 0} (f : ℕ → A) (j : ℕ) (v : A) → put f j v j ≡ v
put_here f j v = let e : (j == j) ≡ true = grind (arith, nat_tests) in ap (λ b. if b then v else f j) e

pub put_else : {A : Type 0} (f : ℕ → A) (j k : ℕ) (v : A) → (k ≡ j → ⊥) → put f j v k ≡ f k
put_else f j k v other = let e : (k == j) ≡ false = grind (arith, nat_tests) in ap (λ b. if b then v else f k) e

-- g is f but for j, where it is v
pub record Only {A : Type 0} (f g : ℕ → A) (j : ℕ) (v : A) : Type 0 where
  pub here : g j ≡ v
  pub there : (k : ℕ) → (k ≡ j → ⊥) → g k ≡ f k

pub only_put : {A : Type 0} (f : ℕ → A) (j : ℕ) (v : A) → Only f (put f j v) j v
only_put f j v = record { here = put_here f j v; there = λ k other. put_else f j k v other }

pub only_same : {A : Type 0} (f : ℕ → A) (j : ℕ) → Only f f j (f j)
only_same f j = record { here = refl; there = λ k other. refl }
