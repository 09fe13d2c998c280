-- A number with one bit that is set is a power of two.
use Rattle.std.proofs.Common.{◌≡◌, ℕ, zero, suc, ◌+◌, ◌-◌, ◌*◌, ◌/◌, ◌%◌, ◌^◌, ◌≤◌, sym, subst, inl, inr, arith}
use Rattle.std.specs.Prelude.{◌≢◌, ◌⊎◌}
use Rattle.std.specs.Int.{IsPowerOfTwo}
use Rattle.std.specs.Int.RustNames.{bit_and, count_ones}
use Rattle.std.proofs.lemmas.Bool.{cases_eq}
use Rattle.std.proofs.lemmas.Nat.{pow-add, and_mask, zero_from_ones, ones_le_self}
use lib.Count.{ones_step}

-- an even number is a power of two where its half is
twice : (n : ℕ) → n % 2 ≡ 0 → IsPowerOfTwo (n / 2) → IsPowerOfTwo n
twice n even half = (half.0 + 1, omega (arith, even, half.1, pow-add 2 half.0 1))

-- an odd number with one bit that is set is 1
lowest : (n : ℕ) → n % 2 ≢ 0 → count_ones n ≡ 1 → IsPowerOfTwo n
lowest n odd one = (0, let none = zero_from_ones (n / 2) (omega (arith, ones_step n, odd, one)) in omega (arith, none, odd))

power_from : (d n : ℕ) → n ≤ d → count_ones n ≡ 1 → IsPowerOfTwo n
power_from zero n small one = absurd (omega (arith, ones_le_self n, small, one))
power_from (suc d) n small one = go (cases_eq (n % 2) 0) (power_from d (n / 2) (omega (arith, small)))
  where
    go : (n % 2 ≡ 0) ⊎ (n % 2 ≢ 0) → (count_ones (n / 2) ≡ 1 → IsPowerOfTwo (n / 2)) → IsPowerOfTwo n
    go (inl even) half = twice n even (half (omega (arith, ones_step n, even, one)))
    go (inr odd) half = lowest n odd one

-- the last bits of a number are what is left of it, divided by a power of two
pub last_bits : (n m : ℕ) → count_ones m ≡ 1 → bit_and n (m - 1) ≡ n % m
last_bits n m one =
    let power = power_from m m (omega arith) one in
    subst (λ p. bit_and n (p - 1) ≡ n % p) (sym power.1) (and_mask n power.0)
