-- How fields stand, one by one. A field that stands in quotes is read without them, so fields are told apart by how they stand.
use Rattle.std.proofs.Common.{◌≡◌, ◌<◌, ◌≤◌, ◌+◌, ◌∙◌, ℕ, zero, suc, List, [], ◌∷◌, ◌++◌, ◌==◌, ◌&&◌, Bool, length, map, drop, get_or, append_assoc, append-nil, true, false, inl, inr, refl, sym, ap}
use Rattle.std.specs.Prelude.{bytes_eq}
use Rattle.std.specs.List.{list_any}
use Rattle.std.proofs.lemmas.Bool.{cases_Bool, eqb-true}
use Rattle.std.proofs.lemmas.List.{drop_all, drop_more}
use Rattle.csv.specs.Writing.{escaped, needs_byte}
use Rattle.hg_base.specs.Text.{Field}
use Rattle.hg_records.specs.Bytes.{flexible_writer, field_bytes}
use Rattle.hg_report.specs.Fields.{is_left_out, nth, says, text_in, unquoted}
use Rattle.hg_report.specs.Progress.{standing}
use Rattle.hg_transcript.proofs.Plain.{IsPlain, inner, no_word}
use Rattle.hg_records.proofs.RecordBytes.{escaped_other}

none_stands : field_bytes [] ≡ []
unfolding field_bytes
none_stands = refl

pub field_stands : (fields : List Field) (i : ℕ) → nth (standing fields) i ≡ field_bytes (nth fields i)
field_stands [] i = sym none_stands
field_stands (x ∷ more) zero = refl
field_stands (x ∷ more) (suc i) = field_stands more i

-- a field that is no such word does not stand as one
pub says_no : (fields : List Field) (i c : ℕ) (cs : List ℕ) → (34 == c) ≡ false → says fields i (c ∷ cs) ≡ false → says (standing fields) i (c ∷ cs) ≡ false
says_no fields i c cs other h = ap (λ x. bytes_eq x (c ∷ cs)) (field_stands fields i) ∙ no_word (nth fields i) c cs other h

unquoted_none : (before : Bool) → unquoted before [] ≡ []
unfolding unquoted
unquoted_none before = refl

unquoted_kept : (before : Bool) (b : ℕ) (bytes : List ℕ) → is_left_out before b ≡ false → unquoted before (b ∷ bytes) ≡ b ∷ unquoted false bytes
unfolding unquoted
unquoted_kept before b bytes h = rw h refl

unquoted_left_out : (before : Bool) (b : ℕ) (bytes : List ℕ) → is_left_out before b ≡ true → unquoted before (b ∷ bytes) ≡ unquoted true bytes
unfolding unquoted
unquoted_left_out before b bytes h = rw h refl

module _ (text all bytes : List ℕ) (before : Bool) (i : ℕ) (less : i < length bytes) (so : text ++ unquoted before (drop i bytes) ≡ all) where
  at_byte : text ++ unquoted before (get_or bytes i 0 ∷ drop (i + 1) bytes) ≡ all
  at_byte = ap (λ bytes. text ++ unquoted before bytes) (sym (drop_more bytes i 0 less)) ∙ so

  pub kept_more : is_left_out before (get_or bytes i 0) ≡ false → (text ++ get_or bytes i 0 ∷ []) ++ unquoted false (drop (i + 1) bytes) ≡ all
  kept_more h = append_assoc text (get_or bytes i 0 ∷ []) (unquoted false (drop (i + 1) bytes)) ∙ ap (λ t. text ++ t) (sym (unquoted_kept before (get_or bytes i 0) (drop (i + 1) bytes) h)) ∙ at_byte

  pub left_out_more : is_left_out before (get_or bytes i 0) ≡ true → text ++ unquoted true (drop (i + 1) bytes) ≡ all
  left_out_more h = ap (λ t. text ++ t) (sym (unquoted_left_out before (get_or bytes i 0) (drop (i + 1) bytes) h)) ∙ at_byte

pub at_end : (text all bytes : List ℕ) (before : Bool) (i : ℕ) → length bytes ≤ i → text ++ unquoted before (drop i bytes) ≡ all → text ≡ all
at_end text all bytes before i over so = sym (ap (λ bytes. text ++ unquoted before bytes) (drop_all i bytes over) ∙ ap (λ t. text ++ t) (unquoted_none before) ∙ append-nil text) ∙ so

unquoted_escaped : (x : Field) → unquoted false (escaped flexible_writer x ++ 34 ∷ []) ≡ x
unfolding escaped unquoted
unquoted_escaped [] = refl
unquoted_escaped (b ∷ x) = elim (cases_Bool (b == 34)) [
  | inl same ↦ rw (eqb-true b 34 same) (ap (λ t. 34 ∷ t) (unquoted_escaped x))
  | inr other ↦ ap (λ t. unquoted false (t ++ 34 ∷ [])) (escaped_other b x other) ∙ unquoted_kept false b (escaped flexible_writer x ++ 34 ∷ []) (ap (λ t. t && true) other) ∙
      ap (λ t. b ∷ t) (unquoted_escaped x)
]

no_quote : (x : Field) → IsPlain x → (get_or x 0 0 == 34) ≡ false
no_quote [] h = refl
no_quote (b ∷ x) h = (inner b x h).quote

pub text_back : (x : Field) → text_in (field_bytes x) ≡ x
unfolding field_bytes
text_back x = elim (cases_Bool (list_any (needs_byte flexible_writer) x)) [
  | inl needs ↦ rw needs (unquoted_escaped x)
  | inr plain ↦ rw (plain, no_quote x plain) refl
]

texts_back : (fields : List Field) → map text_in (standing fields) ≡ fields
texts_back [] = refl
texts_back (x ∷ more) = ap (λ y. y ∷ map text_in (standing more)) (text_back x) ∙ ap (λ fs. x ∷ fs) (texts_back more)

pub same_fields : (q r : List Field) → standing q ≡ standing r → q ≡ r
same_fields q r e = sym (texts_back q) ∙ ap (map text_in) e ∙ texts_back r
