-- Sums where one summand, or none, changes.
use Rattle.std.proofs.Common.{true, false, ◌≡◌, ℕ, zero, suc, ◌+◌, ◌*◌, ◌<◌, ◌≤◌, ◌==◌, refl, subst, arith, Bool, ◌∙◌, if◌then◌else◌, ap, ◌&&◌}
use Rattle.std.proofs.Math.Nat.{suc-mul}
use Rattle.std.proofs.lemmas.Bool.Decides.{Decides-eqb, nat_tests}
use Rattle.hg_base.proofs.ListFacts.{cases}
use Rattle.hg_core.specs.Sums.{sum_to, sum_below}

-- ---- over sessions

pub sum_least : (n : ℕ) (f g : ℕ → ℕ) → ((k : ℕ) → f k ≤ g k) → sum_to n f ≤ sum_to n g
sum_least zero f g le = omega arith
sum_least (suc n) f g le = omega (arith, sum_least n f g le, le (suc n))

pub sum_more : (n : ℕ) (f g : ℕ → ℕ) (j : ℕ) → 0 < j → j ≤ n → ((k : ℕ) → f k ≤ g k) → suc (f j) ≤ g j → suc (sum_to n f) ≤ sum_to n g
sum_more zero f g j first last le more = absurd (omega arith)
sum_more (suc n) f g j first last le more = cases (j == suc n)
    (λ e.
    let same : j ≡ suc n = (Decides-eqb j (suc n)).0 e in
    let here : suc (f (suc n)) ≤ g (suc n) = subst (λ k. suc (f k) ≤ g k) same more in
    omega (arith, sum_least n f g le, here))
    (λ e. let less : j ≤ n = grind (arith, nat_tests) in omega (arith, sum_more n f g j first less le more, le (suc n)))

pub sum_most : (n c : ℕ) (f : ℕ → ℕ) → ((k : ℕ) → f k ≤ c) → sum_to n f ≤ n * c
sum_most zero c f le = omega arith
sum_most (suc n) c f le = omega (arith, sum_most n c f le, le (suc n), suc-mul n c)

pub sum_same : (n : ℕ) (f g : ℕ → ℕ) → ((k : ℕ) → k ≤ n → g k ≡ f k) → sum_to n g ≡ sum_to n f
sum_same zero f g same = refl
sum_same (suc n) f g same = let a = sum_same n f g (λ k le. same k (omega arith)) in let b = same (suc n) (omega arith) in omega arith

pub sum_grown : (n j d : ℕ) (f g : ℕ → ℕ) → 0 < j → j ≤ n → ((k : ℕ) → (k ≡ j → ⊥) → g k ≡ f k) → g j ≡ f j + d → sum_to n g ≡ sum_to n f + d
sum_grown zero j d f g first last there here = absurd (omega arith)
sum_grown (suc n) j d f g first last there here = cases (j == suc n)
    (λ e.
    let same : j ≡ suc n = (Decides-eqb j (suc n)).0 e in
    let rest : sum_to n g ≡ sum_to n f = sum_same n f g (λ k le. there k (λ z. omega (arith, same))) in
    let last : g (suc n) ≡ f (suc n) + d = subst (λ k. g k ≡ f k + d) same here in
    omega arith)
    (λ e.
    let less : j ≤ n = grind (arith, nat_tests) in
    let other : suc n ≡ j → ⊥ = λ z. omega arith in
    let rest = sum_grown n j d f g first less there here in
    let top = there (suc n) other in
    omega arith)

pub sum_none : (n : ℕ) → sum_to n (λ k. 0) ≡ 0
sum_none zero = refl
sum_none (suc n) = let a = sum_none n in omega arith

-- ---- over passes

pub below_none : (n : ℕ) → sum_below n (λ k. 0) ≡ 0
below_none zero = refl
below_none (suc n) = let a = below_none n in omega arith

pub below_same : (n : ℕ) (f g : ℕ → ℕ) → ((k : ℕ) → k < n → g k ≡ f k) → sum_below n g ≡ sum_below n f
below_same zero f g same = refl
below_same (suc n) f g same = let a = below_same n f g (λ k less. same k (omega arith)) in let b = same n (omega arith) in omega arith

pub below_grown : (n j d : ℕ) (f g : ℕ → ℕ) → j < n → ((k : ℕ) → (k ≡ j → ⊥) → g k ≡ f k) → g j ≡ f j + d → sum_below n g ≡ sum_below n f + d
below_grown zero j d f g last there here = absurd (omega arith)
below_grown (suc n) j d f g last there here = cases (j == n)
    (λ e.
    let same : j ≡ n = (Decides-eqb j n).0 e in
    let rest : sum_below n g ≡ sum_below n f = below_same n f g (λ k less. there k (λ z. omega (arith, same))) in
    let top : g n ≡ f n + d = subst (λ k. g k ≡ f k + d) same here in
    omega arith)
    (λ e.
    let less : j < n = grind (arith, nat_tests) in
    let other : n ≡ j → ⊥ = λ z. omega arith in
    let rest = below_grown n j d f g less there here in
    let top = there n other in
    omega arith)

pub below_plus : (n : ℕ) (f g : ℕ → ℕ) → sum_below n (λ k. f k + g k) ≡ sum_below n f + sum_below n g
below_plus zero f g = omega arith
below_plus (suc n) f g = omega (arith, below_plus n f g)

-- sums of sums in either order
pub sums_swap : (n m : ℕ) (f : ℕ → ℕ → ℕ) → sum_below n (λ b. sum_to m (λ j. f b j)) ≡ sum_to m (λ j. sum_below n (λ b. f b j))
sums_swap n zero f = below_none n
sums_swap n (suc m) f = below_plus n (λ b. sum_to m (λ j. f b j)) (λ b. f b (suc m)) ∙ ap (λ x. x + sum_below n (λ b. f b (suc m))) (sums_swap n m f)

-- at most one of the numbers is that one
record IsOnce (n at : ℕ) (x : Bool) : Type 0 where
  pub most : sum_below n (λ b. if (at == b) && x then 1 else 0) ≤ 1
  pub none : n ≤ at → sum_below n (λ b. if (at == b) && x then 1 else 0) ≡ 0

abbrev pub one_of : Bool → ℕ
one_of b = if b then 1 else 0

one_most : (b : Bool) → one_of b ≤ 1
one_most true = omega arith
one_most false = omega arith

gone_if : (b : Bool) → b ≡ false → one_of b ≡ 0
gone_if true e = cc
gone_if false e = refl

once : (n at : ℕ) (x : Bool) → IsOnce n at x
once zero at x = record { most = omega arith; none = λ le. refl }
once (suc n) at x =
    let rest = once n at x in
    let last = one_most ((at == n) && x) in
    cases (at == n)
    (λ e.
    let low : n ≤ at = grind (arith, nat_tests) in
    record { most = omega (arith, rest.none low, last); none = λ le. absurd (let same : at ≡ n = grind (arith, nat_tests) in omega arith) })
    (λ e.
    let out : ((at == n) && x) ≡ false = ap (λ b. b && x) e in
    let gone = gone_if ((at == n) && x) out in
    record { most = omega (arith, rest.most, gone); none = λ le. omega (arith, rest.none (omega arith), gone) })

pub below_one : (n at : ℕ) (x : Bool) → sum_below n (λ b. if (at == b) && x then 1 else 0) ≤ 1
below_one n at x = (once n at x).most
