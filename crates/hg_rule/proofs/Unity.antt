-- How many passes there are, as the last one in use tells.
use Rattle.std.proofs.Common.{◌≡◌, ◌≢◌, ℕ, zero, suc, ◌<◌, ◌≤◌, Bool, true, false, refl, sym, ap, ◌∙◌, arith}
use Rattle.std.proofs.Common.{true≢false}
use native.Mathlib.Decide.{dec_le}
use Rattle.hg_rule.specs.Rules.{AreUsed}

pub tight : (n : ℕ) (used : ℕ → Bool) → ((p : ℕ) → used p ≡ true → p < n) → (m : ℕ) × ((m ≤ n) × AreUsed m used)
tight zero used below = (0, (omega arith, record { below = below; last = λ p e. absurd (omega arith) }))
tight (suc n) used below = go (used n) refl (λ low. tight n used low)
  where
    go : (b : Bool) → used n ≡ b → (((p : ℕ) → used p ≡ true → p < n) → (m : ℕ) × ((m ≤ n) × AreUsed m used)) → (m : ℕ) × ((m ≤ suc n) × AreUsed m used)
    go true e more = (suc n, (omega arith, record { below = below; last = λ p same. ap used (last_is p same) ∙ e }))
      where
        last_is : (p : ℕ) → suc p ≡ suc n → p ≡ n
        last_is p same = omega arith
    go false e more = let rest = more (λ p h. let l = below p h in less p l (λ (same : p ≡ n). true≢false (sym h ∙ (ap used same ∙ e)))) in (rest.0, ((let l = rest.1.0 in omega arith), rest.1.1))
      where
        less : (p : ℕ) → p < suc n → p ≢ n → p < n
        less p l apart = pick (dec_le n p)
          where
            pick : Dec (n ≤ p) → p < n
            pick (yes h) = absurd (apart (omega arith))
            pick (no h) = omega arith
