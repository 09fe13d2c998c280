-- The numbers of a put, field by field.
use Rattle.std.proofs.Common.{◌≡◌, ◌<◌, ◌+◌, ◌∙◌, ℕ, ℤ, Bool, true, false, List, [], ◌∷◌, ◌++◌, length, map, take, set, drop, refl, arith, sym, ap, append_assoc}
use Rattle.std.proofs.lemmas.List.{map-append, take_more_set}
use Rattle.hg_base.specs.declared.value.Value.TheVariants.{Number}
use Rattle.hg_base.specs.declared.number.Integer.TheVariants as signed
use Rattle.hg_script.specs.declared.values.Values.{Values}
use Rattle.hg_script.specs.declared.values.Values.TheVariants.{No, Over, Bad, Are}
use Rattle.hg_base.specs.Number.{integer_of}
use Rattle.hg_script.specs.Fields.{Fields, nth}
use Rattle.hg_script.specs.Draft.{before, numbers_in}
use Rattle.hg_script.proofs.Rows.{rest-at}

-- all values: those taken, of which some may be out of range, and then the rest
abbrev pub taken : Bool → List ℤ → Values → Values
taken over vs No = No
taken over vs Over = Over
taken true vs (Bad n) = Over
taken false vs (Bad n) = Bad n
taken true vs (Are more) = Over
taken false vs (Are more) = Are (map Number vs ++ more)

-- a value that is out of range
pub take-over : (over : Bool) (vs us : List ℤ) (rest : Values) → taken over vs (before signed.Over rest) ≡ taken true us rest
take-over over vs us No = refl
take-over over vs us Over = refl
take-over over vs us (Bad n) = refl
take-over over vs us (Are more) = refl

-- a value that is put at its place
pub take-is : (over : Bool) (vs : List ℤ) (i : ℕ) (v : ℤ) (rest : Values) → i < length vs
    → taken over (take i vs) (before (signed.Is v) rest) ≡ taken over (take (i + 1) (set vs i v)) rest
take-is over vs i v No h = refl
take-is over vs i v Over h = refl
take-is true vs i v (Bad n) h = refl
take-is false vs i v (Bad n) h = refl
take-is true vs i v (Are more) h = refl
take-is false vs i v (Are more) h =
    ap Are (sym (ap (λ xs. map Number xs ++ more) (take_more_set vs i v h) ∙ ap (λ xs. xs ++ more) (map-append Number (take i vs) (v ∷ [])) ∙
    append_assoc (map Number (take i vs)) (Number v ∷ []) more))

values-more : (r : Fields) (k : ℕ) → 4 + k < length r
    → numbers_in (drop (4 + k) r) ≡ before (integer_of (nth r (4 + k))) (numbers_in (drop (4 + (k + 1)) r))
values-more r k h =
    rw (rest-at r (4 + k) h) (ap (λ n. before (integer_of (nth r (4 + k))) (numbers_in (drop n r))) (omega arith))

-- one field more, which is out of range
pub more-over : (r : Fields) (k : ℕ) (over : Bool) (vs : List ℤ) (all : Values) → 4 + k < length r → integer_of (nth r (4 + k)) ≡ signed.Over
    → taken over (take k vs) (numbers_in (drop (4 + k) r)) ≡ all → taken true (take (k + 1) vs) (numbers_in (drop (4 + (k + 1)) r)) ≡ all
more-over r k over vs all h is e =
    sym (take-over over (take k vs) (take (k + 1) vs) (numbers_in (drop (4 + (k + 1)) r))) ∙ (rw (values-more r k h, is) at e)

-- one field more, which is a value
pub more-is : (r : Fields) (k : ℕ) (over : Bool) (vs : List ℤ) (v : ℤ) (all : Values) → 4 + k < length r → k < length vs → integer_of (nth r (4 + k)) ≡ signed.Is v
    → taken over (take k vs) (numbers_in (drop (4 + k) r)) ≡ all → taken over (take (k + 1) (set vs k v)) (numbers_in (drop (4 + (k + 1)) r)) ≡ all
more-is r k over vs v all h room is e =
    sym (take-is over vs k v (numbers_in (drop (4 + (k + 1)) r)) room) ∙ (rw (values-more r k h, is) at e)
