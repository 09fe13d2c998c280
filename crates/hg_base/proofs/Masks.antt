-- Sets of tables, as bits.
use Rattle.std.proofs.Common.{◌≡◌, ℕ, ◌^◌, ◌/◌, ◌%◌, ◌==◌, ◌<◌, ◌≤◌, false, ap, arith}
use Rattle.std.proofs.Math.Nat.{div-eq_of_lt}
use Rattle.std.proofs.Math.Pow.{pow_mono}

-- a set of 64 has nothing at or over 64
pub no_bit : (mask t : ℕ) → mask < 2 ^ 64 → 64 ≤ t → ((mask / 2 ^ t) % 2 == 1) ≡ false
no_bit mask t small over =
    let wide : 2 ^ 64 ≤ 2 ^ t = pow_mono over in
    let less : mask < 2 ^ t = omega (arith, wide, small) in
    ap (λ n. n % 2 == 1) (div-eq_of_lt less)
