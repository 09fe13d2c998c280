-- The bytes of a record are those of its first field, of the others, and a line feed.
use Rattle.std.proofs.Common.{◌≡◌, ◌≢◌, ◌<◌, ◌+◌, length, take, drop, get_or, ◌∙◌, ℕ, List, [], ◌∷◌, ◌++◌, ◌==◌, false, inl, inr, refl, sym, ap, append_assoc, arith}
use Rattle.std.proofs.lemmas.Bool.{cases_Bool}
use Rattle.std.proofs.lemmas.Bool.Decides.{nat_tests}
use Rattle.std.proofs.lemmas.List.{take_more, take_at, take-append-drop}
use Rattle.std.specs.List.{flat_map}
use Rattle.std.specs.Prelude.{Result, Ok, Err, OnErr}
use Rattle.csv.specs.Writing.{escaped, quoted, fields_text, is_blank}
use Rattle.hg_base.specs.Text.{Field}
use Rattle.hg_records.specs.Bytes.{flexible_writer, record_bytes, field_bytes, further_bytes}

-- a byte that is no quote
pub escaped_other : (b : ℕ) (x : Field) → (b == 34) ≡ false → escaped flexible_writer (b ∷ x) ≡ b ∷ escaped flexible_writer x
unfolding escaped
escaped_other b x other = rw other refl

-- one more byte
escaped-more : (field : Field) (b : ℕ) → escaped flexible_writer (field ++ b ∷ []) ≡ escaped flexible_writer field ++ escaped flexible_writer (b ∷ [])
unfolding escaped
escaped-more [] b = refl
escaped-more (c ∷ cs) b = elim (cases_Bool (c == 34)) [
  | inl same ↦ rw (same, escaped-more cs b) refl
  | inr other ↦ rw (other, escaped-more cs b) refl
]

-- the fields of a record after its first one
fields-are : (fields : List Field) → fields_text flexible_writer fields ≡ flat_map further_bytes fields
unfolding fields_text further_bytes
fields-are [] = refl
fields-are (f ∷ fs) = rw (fields-are fs) refl

-- a record of two fields or more
pub record_is : (x y : Field) (more : List Field) → record_bytes (x ∷ y ∷ more) ≡ (field_bytes x ++ flat_map further_bytes (y ∷ more)) ++ 10 ∷ []
unfolding is_blank record_bytes field_bytes
record_is x y more = ap (λ bytes. (field_bytes x ++ bytes) ++ 10 ∷ []) (fields-are (y ∷ more))

-- the bytes of a field up to a place, and one more
pub escaped_more_of : (old front now field : List ℕ) (i : ℕ) → i < length field → front ≡ old ++ escaped flexible_writer (take i field) → now ≡ front ++ escaped flexible_writer (get_or field i 0 ∷ [])
    → now ≡ old ++ escaped flexible_writer (take (i + 1) field)
escaped_more_of old front now field i h e f =
    let up = ap (escaped flexible_writer) (take_more field i 0 h) ∙ escaped-more (take i field) (get_or field i 0) in
    f ∙ ap (λ (bytes : List ℕ). bytes ++ escaped flexible_writer (get_or field i 0 ∷ [])) e ∙
    append_assoc old (escaped flexible_writer (take i field)) (escaped flexible_writer (get_or field i 0 ∷ []))
    ∙ ap (λ (bytes : List ℕ). old ++ bytes) (sym up)

-- no bytes
pub escaped_none : escaped flexible_writer [] ≡ []
unfolding escaped
escaped_none = refl

-- what begins with bytes that went on begins with the first of them
pub still_begins : (old more grown now : List ℕ) → grown ≡ old ++ more → take (length grown) now ≡ grown → take (length old) now ≡ old
still_begins old more grown now e f =
    let rest : List ℕ = drop (length grown) now in
    let parts : now ≡ old ++ (more ++ rest) = sym (take-append-drop (length grown) now) ∙ ap (λ (front : List ℕ). front ++ rest) (f ∙ e) ∙ append_assoc old more rest in
    ap (take (length old)) parts ∙ take_at old (more ++ rest) (length old) refl

-- what holds after every outcome holds after an error
pub after_error : {T E P : Type 0} (r : Result T E) → P → OnErr r P
after_error (Ok x) p = tt
after_error (Err e) p = p

-- bytes that others come after
pub begins_with : (old more now : List ℕ) → now ≡ old ++ more → take (length old) now ≡ old
begins_with old more now e = ap (take (length old)) e ∙ take_at old more (length old) refl

-- the bytes of a field within quotes
pub quoted_of : (old a b now : List ℕ) (field : Field) → a ≡ old ++ 34 ∷ [] → b ≡ a ++ escaped flexible_writer field → now ≡ b ++ 34 ∷ [] → now ≡ old ++ quoted flexible_writer field
quoted_of old a b now field e f g =
    g ∙ (ap (λ (bytes : List ℕ). bytes ++ 34 ∷ []) (f ∙ ap (λ (bytes : List ℕ). bytes ++ escaped flexible_writer field) e) ∙
    (append_assoc (old ++ 34 ∷ []) (escaped flexible_writer field) (34 ∷ []) ∙ append_assoc old (34 ∷ []) (escaped flexible_writer field ++ 34 ∷ [])))

-- a byte that is a quote
pub escaped_quote : (b : ℕ) (old a now : List ℕ) → b ≡ 34 → a ≡ old ++ 34 ∷ [] → now ≡ a ++ b ∷ [] → now ≡ old ++ escaped flexible_writer (b ∷ [])
unfolding escaped
escaped_quote b old a now is e f = rw is (f ∙ (ap (λ (bytes : List ℕ). bytes ++ b ∷ []) e ∙ (append_assoc old (34 ∷ []) (b ∷ []) ∙ ap (λ (x : ℕ). old ++ 34 ∷ x ∷ []) is)))

-- and one that is none
pub escaped_plain : (b : ℕ) (old now : List ℕ) → b ≢ 34 → now ≡ old ++ b ∷ [] → now ≡ old ++ escaped flexible_writer (b ∷ [])
escaped_plain b old now other f = f ∙ ap (λ (bytes : List ℕ). old ++ bytes) (sym (escaped_other b [] (grind (arith, nat_tests, other)) ∙ ap (λ (bytes : List ℕ). b ∷ bytes) escaped_none))
