-- A text is read as k exactly where it is the decimal text of k.
use Rattle.std.proofs.Common.{◌≡◌, ◌<◌, ◌∙◌, ◌^◌, ℕ, zero, suc, true, false, List, [], ◌∷◌, length, get_or, arith, sym, ap, inl, inr, refl, nat_lt, not, ◌&&◌, ◌==◌, decimal}
use Rattle.std.proofs.lemmas.Bool.{cases_Bool, and_parts as both, ltb-true, lt-ltb, leb-true, le-leb}
use Rattle.std.proofs.lemmas.Bool.Decides.{nat_tests}
use Rattle.std.proofs.lemmas.Fmt.{decimal-digits_value, decimal_is_IsNumeral, decimal_nonempty, first_decimal, decimal_digit}
use Rattle.std.proofs.lemmas.Str.{digit_value_digit}
use Rattle.std.proofs.lemmas.Str.Parse.{numerals_by_value, tells_digits, digit_from_value}
use Rattle.std.specs.List.{list_all}
use Rattle.std.specs.Str.Parse.{AllDigits, digits_value}
use Rattle.hg_base.specs.Number.{is_digit, is_natural, natural_of}
use Rattle.hg_base.specs.declared.number.Natural.TheVariants as n

pub all-told : (ds : List ℕ) → list_all is_digit ds ≡ true → AllDigits 10 ds
all-told [] e = tt
all-told (d ∷ ds) e =
    let k = both _ _ e in
    let m = both _ _ k.0 in
    let low = leb-true 48 d m.0 in
    let high = leb-true d 57 m.1 in
    (omega (arith, digit_value_digit d (low, high)), all-told ds k.1)

all-back : (ds : List ℕ) → AllDigits 10 ds → list_all is_digit ds ≡ true
all-back [] h = refl
all-back (d ∷ ds) h =
    let k = digit_from_value d h.0 in rw (le-leb 48 d k.0, le-leb d 57 k.1, all-back ds h.1) refl

-- the first byte is `0` only where it is all
lone : (text : List ℕ) → not (get_or text 0 0 == 48 && nat_lt 1 (length text)) ≡ true → 0 < length text → get_or text 0 0 ≡ 48 → length text ≡ 1
lone text e some is = grind (arith, nat_tests, e, some, is)

pub to : (text : List ℕ) (k : ℕ) → natural_of text ≡ n.Is k → text ≡ decimal k
to text k e = elim (cases_Bool (is_natural text)) [
  | inr wrong ↦ absurd (let f = rw wrong at e in let bad : ⊥ = cc f in bad)
  | inl right ↦
      let f = rw right at e in
      elim (cases_Bool (nat_lt (digits_value 10 text) (2 ^ 64))) [
        | inr over ↦ absurd (let g = rw over at f in let bad : ⊥ = cc g in bad)
        | inl small ↦
            let g = rw small at f in
            let is : digits_value 10 text ≡ k = cc g in
            let parts = both _ _ right in
            let more = both _ _ parts.1 in
            let some = ltb-true 0 (length text) parts.0 in
            sym (decimal-digits_value (numerals_by_value _ tells_digits) text (all-told text more.1) some (lone text more.0 some) (ltb-true _ _ small)) ∙ ap decimal is
      ]
]

head-fits : (k : ℕ) → k < 2 ^ 64 → not (get_or (decimal k) 0 0 == 48 && nat_lt 1 (length (decimal k))) ≡ true
head-fits zero h = rw (decimal_digit 0 (omega arith)) refl
head-fits (suc k) h =
    let first = first_decimal (suc k) (omega arith) h in
    let not_zero : (get_or (decimal (suc k)) 0 0 == 48) ≡ false = grind (arith, nat_tests, first) in
    rw not_zero refl

pub back : (text : List ℕ) (k : ℕ) → k < 2 ^ 64 → text ≡ decimal k → natural_of text ≡ n.Is k
back text k h e =
    let num = decimal_is_IsNumeral k h in
    rw (e, lt-ltb 0 _ (decimal_nonempty k h), head-fits k h, all-back _ num.0.1, num.1, lt-ltb k (2 ^ 64) h) refl
