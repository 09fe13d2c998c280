-- Bytes that are written from the last to the first.
use Rattle.std.proofs.Common.{◌≡◌, ◌∙◌, ◌≤◌, ◌+◌, ℕ, ℤ, List, [], ◌∷◌, ◌++◌, length, length-append, length-take-le, take, drop, map, refl, sym, ap, subst, arith, append_assoc, append-nil}
use Rattle.std.proofs.lemmas.List.{drop-drop, drop_at, drop-append-le}
use Rattle.std.proofs.lemmas.Slice.{between_to_end}
use Rattle.std.specs.List.{between}
use borrow.Rule.Slice.PartMut.{put_mid}
use Rattle.std.specs.Prelude.{codes, decimal}
use Rattle.std.specs.Fmt.{signed_decimal}
use Rattle.std.specs.List.{flat_map}
use Rattle.hg_base.specs.Text.{Field}
use Rattle.hg_records.specs.Bytes.{field_bytes, further_bytes, record_bytes}
use Rattle.hg_records.proofs.RecordBytes.{record_is}
use Rattle.hg_transcript.proofs.Plain.{IsPlain, number_bytes, value_bytes}

pub number_is : (n : ℕ) → further_bytes (decimal n) ≡ 44 ∷ decimal n
unfolding field_bytes further_bytes
number_is n = ap (λ t. 44 ∷ t) (number_bytes n)

pub value_is : (v : ℤ) → further_bytes (signed_decimal v) ≡ 44 ∷ signed_decimal v
unfolding field_bytes further_bytes
value_is v = ap (λ t. 44 ∷ t) (value_bytes v)

pub plain_is : (field : Field) → IsPlain field → further_bytes field ≡ 44 ∷ field
unfolding field_bytes further_bytes
plain_is field plain = rw plain refl

-- a field before others, written from their end
pub fields_put : (old mid now : List ℕ) (word : Field) (more : List Field) → mid ≡ flat_map further_bytes more ++ old → now ≡ further_bytes word ++ mid
    → now ≡ flat_map further_bytes (word ∷ more) ++ old
fields_put old mid now word more e f = rw (f, e) (simp append_assoc)

-- a line that is one record
pub alone_put : (old now first : List ℕ) (more : List (List Field)) (whole : List Field → List Field) → more ≡ [] → now ≡ old ++ first
    → now ≡ old ++ (first ++ flat_map record_bytes (map whole more))
alone_put old now first more whole none e =
    subst (λ (fields : List (List Field)). now ≡ old ++ (first ++ flat_map record_bytes (map whole fields))) (sym none) (e ∙ ap (λ t. old ++ t) (sym (append-nil first)))

-- the record of a reply, written from its end
pub record_put : (old now last replied placed whole : List ℕ) (session : ℕ) (y : Field) (more : List Field) → last ≡ 10 ∷ [] → replied ≡ flat_map further_bytes more ++ last → placed ≡ further_bytes y ++ replied
    → whole ≡ decimal session ++ placed → now ≡ old ++ whole → now ≡ old ++ record_bytes (decimal session ∷ y ∷ more)
record_put old now last replied placed whole session y more e0 e1 e2 e3 e4 = rw (record_is, number_bytes session, e4, e3, e2, e1, e0) (simp append_assoc)

-- the record of a row, written from its end
pub row_put : (old now last valued keyed whole : List ℕ) (x y z k : Field) (more : List Field) → last ≡ 10 ∷ [] → valued ≡ flat_map further_bytes more ++ last → keyed ≡ further_bytes k ++ valued
    → whole ≡ ((field_bytes x ++ further_bytes y) ++ further_bytes z) ++ keyed → now ≡ old ++ whole → now ≡ old ++ record_bytes (x ∷ y ∷ z ∷ k ∷ more)
row_put old now last valued keyed whole x y z k more e0 e1 e2 e3 e4 = rw (record_is, e4, e3, e2, e1, e0) (simp append_assoc)

-- what lies from inside a part that was written to
pub put_tail : (xs ys : List ℕ) (a k n e : ℕ) → a + k ≡ e → length ys ≡ k → n ≤ k → e ≤ length xs → drop (a + n) (put_mid a k xs ys) ≡ drop n ys ++ drop e xs
put_tail xs ys a k n e ends long le fits =
    sym (drop-drop n a (put_mid a k xs ys)) ∙ ap (drop n) (drop_at (take a xs) (ys ++ drop k (drop a xs)) a (length-take-le a xs (omega arith)))
    ∙ drop-append-le n ys (drop k (drop a xs)) (omega arith) ∙ ap (λ t. drop n ys ++ t) (drop-drop k a xs ∙ ap (λ i. drop i xs) ends)

-- such a part reaches at least as far as it begins
pub put_long : (xs ys : List ℕ) (a k : ℕ) → a ≤ length xs → a ≤ length (put_mid a k xs ys)
put_long xs ys a k fits = omega (arith, length-append (take a xs) (ys ++ drop k (drop a xs)), length-take-le a xs fits)

row_is : further_bytes (codes "row") ≡ codes ",row"
unfolding field_bytes further_bytes
row_is = refl

-- what the records of a scan's rows begin with, written from its end
pub start_put : (session place : ℕ) (last placed whole : List ℕ) → last ≡ codes ",row" → placed ≡ further_bytes (decimal place) ++ last → whole ≡ decimal session ++ placed
    → whole ≡ (field_bytes (decimal session) ++ further_bytes (decimal place)) ++ further_bytes (codes "row")
start_put session place last placed whole e0 e1 e2 = rw (e2, e1, e0, number_bytes session, row_is) (simp append_assoc)

-- a field that was written to the end of a buffer, and then added
pub field_put : (old now bytes field : List ℕ) (start n : ℕ) → length bytes ≤ n → drop start bytes ≡ field ++ [] → now ≡ old ++ between start n bytes → now ≡ old ++ field
field_put old now bytes field start n le e f = f ∙ ap (λ t. old ++ t) (between_to_end bytes start n le ∙ e ∙ append-nil field)

pub begin_put : (old now : List ℕ) (session place : ℕ) (placed whole : List ℕ) → placed ≡ further_bytes (decimal place) ++ [] → whole ≡ decimal session ++ placed → now ≡ old ++ whole
    → now ≡ old ++ (field_bytes (decimal session) ++ further_bytes (decimal place))
begin_put old now session place placed whole e0 e1 e2 = rw (e2, e1, e0, number_bytes session) (simp append-nil)
