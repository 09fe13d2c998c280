-- The value of a numeral, digit by digit.
use Rattle.std.proofs.Common.{◌≡◌, ◌<◌, ◌≤◌, ◌+◌, ◌-◌, ◌*◌, ◌/◌, ◌^◌, ◌∙◌, ℕ, true, false, List, length, get_or, take, arith, sym, inl, inr, nat_lt, refl, length-take}
use Rattle.std.proofs.lemmas.Bool.{cases_Bool, false≢true, and_parts as both, le-leb}
use Rattle.std.proofs.lemmas.List.Folds.{list_all_at, list_all_more}
use Rattle.std.proofs.Math.Nat.{pow-le-pow_right}
use Rattle.std.proofs.lemmas.Str.{digit_value_digit}
use Rattle.std.proofs.lemmas.Str.Parse.{digits_value-take-le}
use Rattle.std.proofs.lemmas.Int.Digits.{digits_value_more, digits_value-lt}
use Rattle.std.specs.List.{list_all}
use Rattle.std.specs.Str.Parse.{digits_value}
use Rattle.std.proofs.lemmas.Bool.Decides.{nat_tests}
use Rattle.hg_base.specs.Number.{is_digit, is_natural, natural_of}
use Rattle.hg_base.specs.declared.number.Natural.TheVariants as n
use Rattle.hg_base.proofs.Decimal.{all-told}

pub record Between (c : ℕ) : Type 0 where
  pub low : 48 ≤ c
  pub high : c ≤ 57

pub between : (c : ℕ) → is_digit c ≡ true → Between c
between c h = record { low = grind (arith, nat_tests, h); high = grind (arith, nat_tests, h) }

digit-at : (text : List ℕ) (i : ℕ) → i < length text → list_all is_digit text ≡ true → Between (get_or text i 0)
digit-at text i l h = elim (cases_Bool (is_digit (get_or text i 0))) [
  | inl t ↦ between _ t
  | inr f ↦ absurd (false≢true (sym (list_all_at is_digit text i 0 l f) ∙ h))
]

digits : (text : List ℕ) → is_natural text ≡ true → list_all is_digit text ≡ true
digits text h = (both _ _ (both _ _ h).1).1

pub digit-of : (text : List ℕ) (i : ℕ) → is_natural text ≡ true → i < length text → Between (get_or text i 0)
digit-of text i h l = digit-at text i l (digits text h)

pub value-more : (text : List ℕ) (i : ℕ) → is_natural text ≡ true → i < length text
    → digits_value 10 (take (i + 1) text) ≡ digits_value 10 (take i text) * 10 + (get_or text i 0 - 48)
value-more text i h l =
    let d = digit-of text i h l in
    omega (arith, digits_value_more 10 text i l, digit_value_digit (get_or text i 0) (omega (arith, d.low, d.high)), d.low)

pub is-over : (text : List ℕ) (i v : ℕ) → is_natural text ≡ true → i < length text → v ≡ digits_value 10 (take i text)
    → (2 ^ 64 - 1 - (get_or text i 0 - 48)) / 10 < v → n.Over ≡ natural_of text
is-over text i v h l e over =
    let d = digit-of text i h l in
    let big : 2 ^ 64 ≤ digits_value 10 text = omega (arith, value-more text i h l, digits_value-take-le 10 text (i + 1) (omega arith), d.low, d.high) in
    let no : nat_lt (digits_value 10 text) (2 ^ 64) ≡ false = grind (arith, nat_tests, big) in
    rw (h, no) refl

-- ---- few digits

-- the first i bytes are digits, and write v
pub record AreRead (text : List ℕ) (i v : ℕ) : Type 0 where
  pub digits : list_all is_digit (take i text) ≡ true
  pub value : v ≡ digits_value 10 (take i text)

pub read_more : (text : List ℕ) (i v c w : ℕ) → i < length text → c ≡ get_or text i 0 → 48 ≤ c → c ≤ 57 → w ≡ v * 10 + (c - 48) → AreRead text i v → AreRead text (i + 1) w
read_more text i v c w l at low high is h = record {
  digits = list_all_more is_digit text i 0 l ∙ rw (h.digits, ← at, le-leb 48 c low, le-leb c 57 high) refl;
  value = omega (arith, is, at, h.value, digits_value_more 10 text i l, digit_value_digit (get_or text i 0) (omega (arith, at, low, high)));
}

-- one digit more has room in 64 bits
pub room_left : (text : List ℕ) (i v : ℕ) → i < length text → length text ≤ 19 → AreRead text i v → v < 10 ^ 18
room_left text i v l few h =
    let below = digits_value-lt 10 (take i text) (all-told (take i text) h.digits) in
    let some : 0 < 10 = omega arith in
    let many : length (take i text) ≤ 18 = omega (arith, length-take i text, l, few) in
    let small = pow-le-pow_right some many in
    omega (arith, below, small, h.value)
