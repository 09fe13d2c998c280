-- Records that are begun and go on, and the fields of numbers.
use Rattle.std.proofs.Common.{◌≡◌, ◌<◌, ◌+◌, length, take, get_or, ℕ, ℤ, map, List, [], ◌∷◌, ◌++◌, refl, ap, append_assoc}
use Rattle.std.proofs.lemmas.List.{take_more, map-append, append-nil}
use Rattle.std.proofs.lemmas.List.Concat.{flat_map-append}
use Rattle.std.specs.Fmt.{signed_decimal}
use Rattle.std.specs.List.{flat_map}
use Rattle.hg_base.specs.declared.value.Value.TheVariants.{Number}
use Rattle.hg_base.specs.Text.{Field, value_field}
use Rattle.hg_records.specs.Bytes.{record_bytes, field_bytes, further_bytes}
use Rattle.hg_records.proofs.RecordBytes.{record_is}

-- a record that is begun, goes on and is ended
pub ended : (old begun full now : List ℕ) (x y : Field) (more : List Field) → begun ≡ old ++ (field_bytes x ++ further_bytes y) → full ≡ begun ++ flat_map further_bytes more → now ≡ full ++ 10 ∷ []
    → now ≡ old ++ record_bytes (x ∷ y ∷ more)
ended old begun full now x y more e f g = rw (record_is, g, f, e) (simp append_assoc)

-- the fields of numbers
pub numbers_are : (numbers : List ℤ) → map value_field (map Number numbers) ≡ map signed_decimal numbers
numbers_are [] = refl
numbers_are (n ∷ ns) = ap (λ fs. signed_decimal n ∷ fs) (numbers_are ns)

-- one more field, of a number or of a value
pub fields_more : {X : Type 0} (field : X → Field) (old front now : List ℕ) (row : List X) (i : ℕ) (d : X) → i < length row →
    front ≡ old ++ flat_map further_bytes (map field (take i row)) → now ≡ front ++ further_bytes (field (get_or row i d))
    → now ≡ old ++ flat_map further_bytes (map field (take (i + 1) row))
fields_more field old front now row i d h e f = rw (f, e, take_more row i d h, map-append, flat_map-append) (simp (append_assoc, append-nil))

-- the records of one item more
pub records_more : {X : Type 0} (records : X → List (List Field)) (old front now : List ℕ) (xs : List X) (i : ℕ) (d : X) → i < length xs →
    front ≡ old ++ flat_map record_bytes (flat_map records (take i xs)) → now ≡ front ++ flat_map record_bytes (records (get_or xs i d))
    → now ≡ old ++ flat_map record_bytes (flat_map records (take (i + 1) xs))
records_more records old front now xs i d h e f = rw (f, e, take_more xs i d h, flat_map-append, flat_map-append) (simp (append_assoc, append-nil))

-- the record of one item more, where each has one
pub record_more : {X : Type 0} (whole : List Field → List Field) (fields : X → List Field) (old front now : List ℕ) (xs : List X) (i : ℕ) (d : X) → i < length xs →
    front ≡ old ++ flat_map record_bytes (map whole (map fields (take i xs))) → now ≡ front ++ record_bytes (whole (fields (get_or xs i d)))
    → now ≡ old ++ flat_map record_bytes (map whole (map fields (take (i + 1) xs)))
record_more whole fields old front now xs i d h e f = rw (f, e, take_more xs i d h) (simp (map-append, flat_map-append, append_assoc, append-nil))
