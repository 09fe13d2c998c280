-- What the number fields of a text are read as, and that no word is one of them.
use Rattle.std.proofs.Common.{◌≡◌, ℕ, suc, ◌^◌, ◌<◌, ◌≤◌, ℤ, pos, negsuc, neg_ℤ, List, [], ◌∷◌, get_or, drop, false, cond, ◌==◌, ◌&&◌, decimal, refl, ap, arith}
use Rattle.std.specs.Fmt.{signed_decimal}
use Rattle.std.specs.Str.{bytes_eq}
use Rattle.std.specs.Str.Parse.{digits_value}
use Rattle.std.proofs.lemmas.Bool.Decides.{nat_tests}
use Rattle.std.proofs.lemmas.Fmt.{decimal_is_IsNumeral}
use Rattle.std.proofs.lemmas.Str.Parse.{digit_at}
use lib.Signed.{mag}
use Rattle.hg_base.specs.Text.{Field}

-- a field of digits
pub number_of : Field → ℕ
number_of field = digits_value 10 field

-- and with a sign
pub value_of : Field → ℤ
value_of field = cond (get_or field 0 0 == 45) (neg_ℤ (pos (number_of (drop 1 field)))) (pos (number_of field))

pub number_read : (n : ℕ) → n < 2 ^ 64 → number_of (decimal n) ≡ n
unfolding number_of
number_read n h = (decimal_is_IsNumeral n h).1

pub first_digit : (n : ℕ) → n < 2 ^ 64 → (48 ≤ get_or (decimal n) 0 0) × (get_or (decimal n) 0 0 ≤ 57)
first_digit n h = let is = (decimal_is_IsNumeral n h).0 in digit_at (decimal n) 0 is.1 is.0

pub value_read : (v : ℤ) → mag v < 2 ^ 63 → value_of (signed_decimal v) ≡ v
unfolding value_of
value_read (pos n) h =
    let first = first_digit n (omega arith) in
    let plain : (get_or (decimal n) 0 0 == 45) ≡ false = grind (arith, nat_tests, first) in
    rw plain (ap pos (number_read n (omega arith)))
value_read (negsuc n) h = ap (λ m. neg_ℤ (pos m)) (number_read (suc n) (omega arith))

-- a word that begins with no digit
no_letter : (ds : List ℕ) (c : ℕ) (cs : List ℕ) → get_or ds 0 0 < c → bytes_eq ds (c ∷ cs) ≡ false
no_letter [] c cs h = refl
no_letter (d ∷ ds) c cs h =
    let differ : (d == c) ≡ false = grind (arith, nat_tests, h) in
    ap (λ b. b && bytes_eq ds cs) differ

pub number_is_no_word : (n c : ℕ) (cs : List ℕ) → n < 2 ^ 64 → 57 < c → bytes_eq (decimal n) (c ∷ cs) ≡ false
number_is_no_word n c cs h over = let first = first_digit n h in no_letter (decimal n) c cs (omega (arith, first))
