-- A list that does not fall, in the words of a chain's sweep.
use Rattle.std.proofs.Common.{ℕ, zero, suc, ◌≤◌, ◌<◌, List, [], ◌∷◌, length, arith}
use Rattle.std.specs.Prelude.{slice_index_or}
use Rattle.std.specs.List.Sorted.{IsNonDecreasing}
use Rattle.hg_base.specs.Lists.{Each}
use Rattle.hg_chains.specs.Sweeps.{Rises}

each_over : (a : ℕ) (xs : List ℕ) → ((k : ℕ) → k < length xs → a ≤ slice_index_or xs k 0) → Each (λ b. a ≤ b) xs
each_over a [] f = tt
each_over a (x ∷ xs) f = (f zero (omega arith), each_over a xs (λ k less. f (suc k) (omega (arith, less))))

pub rises_of : (xs : List ℕ) → IsNonDecreasing xs → Rises xs
rises_of [] h = tt
rises_of (x ∷ xs) h = (each_over x xs (λ k less. h zero (suc k) 0 (omega arith) (omega (arith, less))), rises_of xs (λ i j d le less. h (suc i) (suc j) d (omega (arith, le)) (omega (arith, less))))
