-- Values that are packed are found again.
use Rattle.std.proofs.Common.{◌≡◌, ℕ, zero, suc, ◌^◌, ◌<◌, ◌≤◌, ◌==◌, ℤ, List, [], ◌∷◌, ◌++◌, get_or, length, take, drop, false, append_assoc, append-nil, refl, sym, ap, ◌∙◌, subst, arith}
use Rattle.std.specs.Prelude.{FitsSigned, IsTrue}
use Rattle.std.specs.Int.{w64, cast_signed, cast_unsigned, to_le_bytes, from_le_bytes}
use borrow.Author.Rules.{sfits_of}
use Rattle.std.specs.List.{flat_map, list_any}
use Rattle.std.specs.Bool.{MatchBool}
use Rattle.std.proofs.Math.Facts.{Fits-of_z}
use Rattle.std.proofs.lemmas.Int.{to_z-of_z}
use Rattle.std.proofs.lemmas.List.{length-append}
use Rattle.std.proofs.lemmas.Nat.{from_le_bytes-to_le_bytes_8}
use Rattle.std.proofs.lemmas.Bool.Decides.{nat_tests}
use Rattle.std.proofs.Math.Seq.{take-append_seam, drop-append_seam}
use lib.Signed.{mag}
use Rattle.hg_base.specs.declared.value.Value.{Value}
use Rattle.hg_base.specs.declared.value.Value.TheVariants.{Number, Text}
use Rattle.hg_base.specs.Lists.{Each}
use Rattle.hg_base.specs.Values.{FitsValue, is_text}
use Rattle.hg_base.specs.Packed.{packed_value, packed, front_value, front_size, values_from, unpacked, IsWhole, IsPacked}

-- the eight bytes of a number
abbrev bytes_of : ℤ → List ℕ
bytes_of v = to_le_bytes w64 (cast_unsigned w64 v)

number_back : (v : ℤ) → mag v < 2 ^ 63 → cast_signed w64 (from_le_bytes w64 (bytes_of v)) ≡ v
number_back v h =
    let fits : FitsSigned w64 v = sfits_of h in
    ap (cast_signed w64) (from_le_bytes-to_le_bytes_8 (cast_unsigned w64 v) (omega (arith, Fits-of_z {w = w64} {z = v} fits))) ∙ to_z-of_z w64 v fits

pub value_front : (v : Value) (rest : List ℕ) → FitsValue v → front_value (packed_value v ++ rest) ≡ v
value_front (Number v) rest h = ap (λ bytes. Number (cast_signed w64 (from_le_bytes w64 bytes))) (take-append_seam (bytes_of v) rest) ∙ ap Number (number_back v h)
value_front (Text t) rest h =
    let short : (length t == 255) ≡ false = grind (arith, nat_tests, h) in
    rw short (ap Text (take-append_seam t rest))

pub value_size : (v : Value) (rest : List ℕ) → FitsValue v → drop (front_size (packed_value v ++ rest)) (packed_value v ++ rest) ≡ rest
value_size (Number v) rest h = drop-append_seam (bytes_of v) rest
value_size (Text t) rest h =
    let short : (length t == 255) ≡ false = grind (arith, nat_tests, h) in
    rw short (drop-append_seam t rest)

pub value_whole : (v : Value) (rest : List ℕ) → FitsValue v → IsWhole (packed_value v ++ rest)
value_whole (Number v) rest h = omega arith
value_whole (Text t) rest h =
    let short : (length t == 255) ≡ false = grind (arith, nat_tests, h) in
    subst (λ b. MatchBool b (8 ≤ length (t ++ rest)) ((length t ≤ length (t ++ rest)) × (length t ≤ 64))) (sym short) (omega (arith, length-append t rest), h)

value_small : (v : Value) (rest : List ℕ) → FitsValue v → front_size (packed_value v ++ rest) ≤ length (packed_value v ++ rest)
value_small (Number v) rest h = omega arith
value_small (Text t) rest h =
    let short : (length t == 255) ≡ false = grind (arith, nat_tests, h) in
    rw short (omega (arith, length-append t rest))

-- behind the first j of them, one more is there whole, and is found
abbrev pub packed_from : List Value → ℕ → List ℕ
packed_from vs j = flat_map packed_value (drop j vs)

pub one_more : (vs : List Value) (j : ℕ) → j < length vs → Each FitsValue vs → drop (front_size (packed_from vs j)) (packed_from vs j) ≡ packed_from vs (suc j)
one_more [] j h f = absurd (omega (arith, h))
one_more (v ∷ vs) zero h f = value_size v (flat_map packed_value vs) f.0
one_more (v ∷ vs) (suc j) h f = one_more vs j (omega (arith, h)) f.1

pub one_small : (vs : List Value) (j : ℕ) → j < length vs → Each FitsValue vs → front_size (packed_from vs j) ≤ length (packed_from vs j)
one_small [] j h f = omega (arith, h)
one_small (v ∷ vs) zero h f = value_small v (flat_map packed_value vs) f.0
one_small (v ∷ vs) (suc j) h f = one_small vs j (omega (arith, h)) f.1

pub one_whole : (vs : List Value) (j : ℕ) → j < length vs → Each FitsValue vs → IsWhole (packed_from vs j)
one_whole [] j h f = absurd (omega (arith, h))
one_whole (v ∷ vs) zero h f = value_whole v (flat_map packed_value vs) f.0
one_whole (v ∷ vs) (suc j) h f = one_whole vs j (omega (arith, h)) f.1

pub one_found : (vs : List Value) (j : ℕ) (d : Value) → j < length vs → Each FitsValue vs → front_value (packed_from vs j) ≡ get_or vs j d
one_found [] j d h f = absurd (omega (arith, h))
one_found (v ∷ vs) zero d h f = value_front v (flat_map packed_value vs) f.0
one_found (v ∷ vs) (suc j) d h f = one_found vs j d (omega (arith, h)) f.1

-- all are found again
values_back : (vs : List Value) → Each FitsValue vs → values_from (length vs) (flat_map packed_value vs) ≡ vs
values_back [] f = refl
values_back (v ∷ vs) f =
    let first = value_front v (flat_map packed_value vs) f.0 in
    let rest = ap (values_from (length vs)) (value_size v (flat_map packed_value vs) f.0) ∙ values_back vs f.1 in
    λ i. first i ∷ rest i

pub unpacked_back : (vs : List Value) → Each FitsValue vs → unpacked (packed vs) ≡ vs
unpacked_back vs f = values_back vs f

-- the bytes of values, of which one is a text, are as they should be
pub packed_is : (vs : List Value) → Each FitsValue vs → IsTrue (list_any is_text vs) → IsPacked (packed vs)
packed_is vs f t = record {
  same = ap packed (unpacked_back vs f);
  fit = subst (λ us. Each FitsValue us) (sym (unpacked_back vs f)) f;
  some = subst (λ us. IsTrue (list_any is_text us)) (sym (unpacked_back vs f)) t;
}

-- one more that fits
pub fit_more : (vs : List Value) (k : ℕ) (d : Value) → k < length vs → Each FitsValue (take k vs) → FitsValue (get_or vs k d) → Each FitsValue (take (suc k) vs)
fit_more [] k d h f g = absurd (omega (arith, h))
fit_more (v ∷ vs) zero d h f g = (g, tt)
fit_more (v ∷ vs) (suc k) d h f g = (f.0, fit_more vs k d (omega (arith, h)) f.1 g)

-- the bytes of one more value come behind those before it
pub bytes_more : (vs : List Value) (k : ℕ) (d : Value) → k < length vs → flat_map packed_value (take k vs) ++ packed_value (get_or vs k d) ≡ flat_map packed_value (take (suc k) vs)
bytes_more [] k d h = absurd (omega (arith, h))
bytes_more (v ∷ vs) zero d h = sym (append-nil (packed_value v))
bytes_more (v ∷ vs) (suc k) d h = append_assoc (packed_value v) (flat_map packed_value (take k vs)) (packed_value (get_or vs k d)) ∙ ap (λ bytes. packed_value v ++ bytes) (bytes_more vs k d (omega (arith, h)))
