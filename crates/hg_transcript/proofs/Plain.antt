-- Numbers call for no quotes, and a field that calls for none stands as it is.
use Rattle.std.proofs.Common.{◌≡◌, ◌∙◌, ◌<◌, ◌+◌, ◌%◌, ◌/◌, ℕ, zero, suc, ℤ, pos, negsuc, List, [], ◌∷◌, ◌==◌, ◌||◌, Bool, true, false, inl, inr, refl, sym, ap, subst, arith}
use Rattle.std.specs.Prelude.{bytes_eq, decimal}
use Rattle.std.specs.Fmt.{digits, digits_onto, digit_glyph, signed_decimal}
use Rattle.std.specs.List.{list_any}
use Rattle.std.proofs.lemmas.Bool.{cases_Bool, eqb-true, false≢true, lt-ltb, le-leb, cond_both}
use Rattle.csv.specs.Writing.{needs_byte}
use Rattle.hg_base.specs.Text.{Field}
use Rattle.hg_base.specs.Number.{is_digit}
use Rattle.hg_records.specs.Bytes.{flexible_writer, field_bytes}

abbrev pub IsPlain : Field → Type 0
IsPlain field = list_any (needs_byte flexible_writer) field ≡ false

-- ---- bytes that pass a test are none that call for quotes, where these do not pass it

apart : (passes : ℕ → Bool) (k c : ℕ) → passes k ≡ false → passes c ≡ true → (c == k) ≡ false
apart passes k c out h = elim (cases_Bool (c == k)) [
  | inr other ↦ other
  | inl same ↦ let bad : false ≡ true = sym out ∙ ap passes (sym (eqb-true c k same)) ∙ h in absurd (let b : ⊥ = cc bad in b)
]

module _ (passes : ℕ → Bool) (comma : passes 44 ≡ false) (quote : passes 34 ≡ false) (return : passes 13 ≡ false) (feed : passes 10 ≡ false) where
  plain_byte : (c : ℕ) → passes c ≡ true → needs_byte flexible_writer c ≡ false
  plain_byte c h = rw (apart passes 44 c comma h, apart passes 34 c quote h, apart passes 13 c return h, apart passes 10 c feed h) refl

-- ---- numbers

plain_digit : (d : ℕ) → d < 10 → needs_byte flexible_writer (48 + d) ≡ false
plain_digit d h = plain_byte is_digit refl refl refl refl (48 + d) (rw (le-leb 48 (48 + d) (omega arith), le-leb (48 + d) 57 (omega arith)) refl)

plain_glyph : (d : ℕ) → d < 10 → needs_byte flexible_writer (digit_glyph false d) ≡ false
plain_glyph d h = rw (lt-ltb d 10 h) (plain_digit d h)

plain_onto : (k n : ℕ) (acc : List ℕ) → IsPlain acc → IsPlain (digits_onto k 10 false n acc)
plain_onto zero n acc h = h
plain_onto (suc k) n acc h =
    let more : IsPlain (digit_glyph false (n % 10) ∷ acc) = rw (plain_glyph (n % 10) (omega arith), h) refl in
    cond_both (n / 10 == 0) (digit_glyph false (n % 10) ∷ acc) (digits_onto k 10 false (n / 10) (digit_glyph false (n % 10) ∷ acc)) IsPlain (λ e. more)
    (λ e. plain_onto k (n / 10) (digit_glyph false (n % 10) ∷ acc) more)

plain_number : (n : ℕ) → IsPlain (decimal n)
unfolding digits
plain_number n = plain_onto 64 n [] refl

plain_value : (v : ℤ) → IsPlain (signed_decimal v)
plain_value (pos n) = plain_number n
plain_value (negsuc n) = plain_number (suc n)

-- a number's field is its digits
pub number_bytes : (n : ℕ) → field_bytes (decimal n) ≡ decimal n
unfolding field_bytes
number_bytes n = rw (plain_number n) refl

pub value_bytes : (v : ℤ) → field_bytes (signed_decimal v) ≡ signed_decimal v
unfolding field_bytes
value_bytes v = rw (plain_value v) refl

-- ---- the bytes of a plain field

pub record IsInner (b : ℕ) (bytes : List ℕ) : Type 0 where
  pub feed : (b == 10) ≡ false
  pub comma : (b == 44) ≡ false
  pub quote : (b == 34) ≡ false
  pub others : IsPlain bytes

true≢false : true ≡ false → ⊥
true≢false e = false≢true (sym e)

not_it : (k b : ℕ) (bytes : List ℕ) → (IsPlain (k ∷ bytes) → ⊥) → IsPlain (b ∷ bytes) → (b == k) ≡ false
not_it k b bytes out h = elim (cases_Bool (b == k)) [
  | inr other ↦ other
  | inl same ↦ absurd (out (subst (λ c. IsPlain (c ∷ bytes)) (eqb-true b k same) h))
]

others_plain : (b : ℕ) (bytes : List ℕ) → IsPlain (b ∷ bytes) → IsPlain bytes
others_plain b bytes h = elim (cases_Bool (needs_byte flexible_writer b)) [
  | inl needs ↦ absurd (true≢false (sym (ap (λ n. n || list_any (needs_byte flexible_writer) bytes) needs) ∙ h))
  | inr not ↦ sym (ap (λ n. n || list_any (needs_byte flexible_writer) bytes) not) ∙ h
]

pub inner : (b : ℕ) (bytes : List ℕ) → IsPlain (b ∷ bytes) → IsInner b bytes
inner b bytes h = record { feed = not_it 10 b bytes true≢false h; comma = not_it 44 b bytes true≢false h; quote = not_it 34 b bytes true≢false h; others = others_plain b bytes h }

-- a field that is no such word does not stand as one
pub no_word : (x : Field) (c : ℕ) (cs : List ℕ) → (34 == c) ≡ false → bytes_eq x (c ∷ cs) ≡ false → bytes_eq (field_bytes x) (c ∷ cs) ≡ false
unfolding field_bytes
no_word x c cs other h = elim (cases_Bool (list_any (needs_byte flexible_writer) x)) [
  | inl needs ↦ rw (needs, other) refl
  | inr plain ↦ rw plain h
]
