-- A number that is read of a text is the one of the definition.
use Rattle.std.proofs.Common.{◌≡◌, ◌^◌, ◌<◌, ◌&&◌, ℕ, Bool, true, refl, Option, Some, None, inl, inr, List, [], ◌∷◌, nat_lt, Result, Ok, Err}
use Rattle.std.proofs.lemmas.Bool.{cases_Bool, and_parts as both, ltb-true, lt-ltb}
use Rattle.std.specs.List.{list_all}
use Rattle.std.specs.Prelude.{option_and_then}
use Rattle.std.specs.Char.{digit_value}
use Rattle.std.specs.Str.Parse.{AllDigits, IsNumeral, ParsesUnsigned, digits_value, without_leading_plus}
use Rattle.clap.specs.Words.{Text, ReadsOne}
use Rattle.clap.specs.ValueTests.{is_numeral}
use Rattle.hg_words.specs.Options.{number_of}

all-told : (ds : List ℕ) → list_all (λ d. nat_lt (digit_value d) 10) ds ≡ true → AllDigits 10 ds
all-told [] e = tt
all-told (d ∷ ds) e = let k = both _ _ e in (ltb-true (digit_value d) 10 k.0, all-told ds k.1)

all-back : (ds : List ℕ) → AllDigits 10 ds → list_all (λ d. nat_lt (digit_value d) 10) ds ≡ true
all-back [] h = refl
all-back (d ∷ ds) h = rw (lt-ltb (digit_value d) 10 h.0) (all-back ds h.1)

fits : ℕ → Text → Bool
fits bits text = is_numeral (without_leading_plus text) && nat_lt (digits_value 10 (without_leading_plus text)) (2 ^ bits)

told : (bits : ℕ) (text : Text) → fits bits text ≡ true → IsNumeral 10 (without_leading_plus text) × (digits_value 10 (without_leading_plus text) < 2 ^ bits)
unfolding fits
told bits text e =
    let k = both _ _ e in
    let m = both _ _ k.0 in
    ((ltb-true 0 _ m.0, all-told _ m.1), ltb-true _ _ k.1)

back : (bits : ℕ) (text : Text) → IsNumeral 10 (without_leading_plus text) → digits_value 10 (without_leading_plus text) < 2 ^ bits → fits bits text ≡ true
unfolding fits
back bits text n h = rw (lt-ltb 0 _ n.0, all-back _ n.1, lt-ltb _ _ h) refl

module _ (bits : ℕ) {E : Type 0} (G : List ℕ → Result ℕ E → Type 0) (plain : (u : List ℕ) (x : Result ℕ E) → G u x → ParsesUnsigned bits 10 u x) where
  read_at : (t : Text) (r : Option ℕ) → ReadsOne G t r → r ≡ number_of bits t
  unfolding fits
  read_at t (Some v) h =
      let p = plain t (Ok v) h in
      let e = back bits t p.0.0 p.0.1 in
      rw (p.1, e) refl
  read_at t None h =
      elim (cases_Bool (fits bits t)) [
        | inl e ↦ absurd (plain t (Err h.0) h.1 (told bits t e))
        | inr e ↦ rw e refl
      ]

  pub read_of : (o : Option Text) (r : Option ℕ) → (o ≡ None → r ≡ None) → ((t : Text) → o ≡ Some t → ReadsOne G t r) → r ≡ option_and_then (number_of bits) o
  read_of None r n s = n refl
  read_of (Some t) r n s = read_at t r (s t refl)
