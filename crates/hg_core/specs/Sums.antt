-- Sums over sessions, which are numbered from 1, and over passes and buckets, which are numbered from 0.
use Rattle.std.specs.Prelude.{ℕ, zero, suc, ◌+◌}

-- f 1 + .. + f n
abbrev pub sum_to : ℕ → (ℕ → ℕ) → ℕ
sum_to zero f = 0
sum_to (suc n) f = sum_to n f + f (suc n)

-- f 0 + .. + f (n - 1)
abbrev pub sum_below : ℕ → (ℕ → ℕ) → ℕ
sum_below zero f = 0
sum_below (suc n) f = sum_below n f + f n
