-- Words on lists that the definitions use.
use Rattle.std.specs.Prelude.{ℕ, zero, suc, ◌<◌, List, [], ◌∷◌, Option, Some, None, max, ⊤}

-- P holds of each element
abbrev pub Each : {X : Type 0} → (X → Type 0) → List X → Type 0
Each P [] = ⊤
Each P (x ∷ xs) = P x × Each P xs

-- P holds of each element with those before it, which are given newest first
abbrev pub EachAfter : {X : Type 0} → (List X → X → Type 0) → List X → List X → Type 0
EachAfter P earlier [] = ⊤
EachAfter P earlier (now ∷ later) = P earlier now × EachAfter P (now ∷ earlier) later

-- the elements put one after the other before those that are there, so that the last is first
abbrev pub onto : {X : Type 0} → List X → List X → List X
onto [] earlier = earlier
onto (x ∷ xs) earlier = onto xs (x ∷ earlier)

-- n, n + 1, .., as many as told
abbrev pub numbers_from : ℕ → ℕ → List ℕ
numbers_from n zero = []
numbers_from n (suc many) = n ∷ numbers_from (suc n) many

-- the greatest, and 0 where there is none
abbrev pub greatest : List ℕ → ℕ
greatest [] = 0
greatest (n ∷ ns) = max n (greatest ns)

-- each is below the next
abbrev pub Ascends : List ℕ → Type 0
Ascends [] = ⊤
Ascends (a ∷ []) = ⊤
Ascends (a ∷ b ∷ more) = (a < b) × Ascends (b ∷ more)

-- the numbers that are there
abbrev pub present : {X : Type 0} → List (Option X) → List X
present [] = []
present (None ∷ xs) = present xs
present ((Some x) ∷ xs) = x ∷ present xs
