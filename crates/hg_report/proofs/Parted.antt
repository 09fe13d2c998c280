-- The bytes of a record are parted into its fields, as they stand.
use Rattle.std.proofs.Common.{◌≡◌, ◌<◌, ◌≤◌, ◌+◌, ◌-◌, ◌∙◌, ℕ, List, [], ◌∷◌, ◌++◌, ◌==◌, ◌&&◌, ◌⊎◌, Bool, not, length, take, drop, get_or, true, false, inl, inr, refl, sym, ap, subst}
use Rattle.std.proofs.Common.{append_assoc, append-nil, length-drop, get_or-drop, arith}
use Rattle.std.specs.Prelude.{if◌then◌else◌}
use Rattle.std.specs.Borrow.{Bor}
use Rattle.std.specs.List.{flat_map, list_any}
use Rattle.std.proofs.lemmas.List.{map-append, drop_more, drop_all, take_more}
use Rattle.std.proofs.lemmas.Bool.{cases_Bool, eqb-true, false≢true}
use Rattle.std.proofs.lemmas.Bool.Decides.{nat_tests}
use Rattle.csv.specs.Writing.{escaped, needs_byte}
use Rattle.hg_base.specs.Text.{Field}
use Rattle.hg_records.specs.Bytes.{flexible_writer, record_bytes, field_bytes, further_bytes}
use Rattle.hg_report.specs.Fields.{fields_of, parted}
use Rattle.hg_report.specs.Progress.{standing}
use Rattle.hg_transcript.proofs.Plain.{IsPlain, inner}
use Rattle.hg_records.proofs.RecordBytes.{escaped_other, record_is}

-- ---- over a field

over_plain : (x field tail : List ℕ) → IsPlain x → parted false field (x ++ tail) ≡ parted false (field ++ x) tail
unfolding parted
over_plain [] field tail h = ap (λ f. parted false f tail) (sym (append-nil field))
over_plain (b ∷ x) field tail h =
    let is = inner b x h in
    rw (is.feed, is.comma, is.quote) (over_plain x (field ++ b ∷ []) tail is.others ∙ ap (λ f. parted false f tail) (append_assoc field (b ∷ []) x))

within_quotes : (field : List ℕ) (b : ℕ) (tail : List ℕ) → (b == 34) ≡ false → parted true field (b ∷ tail) ≡ parted true (field ++ b ∷ []) tail
unfolding parted
within_quotes field b tail other = rw other refl

-- a quote within quotes stands twice, so what is behind them is within quotes again
over_escaped : (x field tail : List ℕ) → parted true field (escaped flexible_writer x ++ tail) ≡ parted true (field ++ escaped flexible_writer x) tail
unfolding escaped parted
over_escaped [] field tail = ap (λ f. parted true f tail) (sym (append-nil field))
over_escaped (b ∷ x) field tail = elim (cases_Bool (b == 34)) [
  | inl same ↦
      let rest = escaped flexible_writer x in
      rw (eqb-true b 34 same)
      (over_escaped x ((field ++ 34 ∷ []) ++ 34 ∷ []) tail ∙ ap (λ f. parted true f tail) (append_assoc (field ++ 34 ∷ []) (34 ∷ []) rest ∙ append_assoc field (34 ∷ []) (34 ∷ rest)))
  | inr other ↦
      let same = escaped_other b x other in
      ap (λ t. parted true field (t ++ tail)) same ∙ within_quotes field b (escaped flexible_writer x ++ tail) other ∙ over_escaped x (field ++ b ∷ []) tail
      ∙ ap (λ f. parted true f tail) (append_assoc field (b ∷ []) (escaped flexible_writer x) ∙ ap (λ t. field ++ t) (sym same))
]

over_quoted : (x field tail : List ℕ) → parted false field ((34 ∷ (escaped flexible_writer x ++ 34 ∷ [])) ++ tail) ≡ parted false (field ++ 34 ∷ (escaped flexible_writer x ++ 34 ∷ [])) tail
unfolding parted
over_quoted x field tail =
    let rest = escaped flexible_writer x in
    ap (parted true (field ++ 34 ∷ [])) (append_assoc rest (34 ∷ []) tail) ∙ over_escaped x (field ++ 34 ∷ []) (34 ∷ tail)
    ∙ ap (λ f. parted false f tail) (append_assoc (field ++ 34 ∷ []) rest (34 ∷ []) ∙ append_assoc field (34 ∷ []) (rest ++ 34 ∷ []))

over_field : (x field tail : List ℕ) → parted false field (field_bytes x ++ tail) ≡ parted false (field ++ field_bytes x) tail
unfolding field_bytes
over_field x field tail = elim (cases_Bool (list_any (needs_byte flexible_writer) x)) [
  | inl needs ↦ rw needs (over_quoted x field tail)
  | inr plain ↦ rw plain (over_plain x field tail plain)
]

-- ---- over a record

further_is : (x : Field) → further_bytes x ≡ 44 ∷ field_bytes x
unfolding field_bytes further_bytes
further_is x = refl

at_feed : (field rest : List ℕ) → parted false field (10 ∷ rest) ≡ field ∷ []
unfolding parted
at_feed field rest = refl

at_comma : (field rest : List ℕ) → parted false field (44 ∷ rest) ≡ field ∷ parted false [] rest
unfolding parted
at_comma field rest = refl

over_more : (field : List ℕ) (more : List Field) (rest : List ℕ) → parted false field (flat_map further_bytes more ++ (10 ∷ rest)) ≡ field ∷ standing more
over_more field [] rest = at_feed field rest
over_more field (y ∷ more) rest =
    let others = flat_map further_bytes more in
    ap (λ t. parted false field ((t ++ others) ++ (10 ∷ rest))) (further_is y) ∙ at_comma field ((field_bytes y ++ others) ++ (10 ∷ rest))
    ∙ ap (λ fs. field ∷ fs) (ap (parted false []) (append_assoc (field_bytes y) others (10 ∷ rest)) ∙ over_field y [] (others ++ (10 ∷ rest)) ∙ over_more (field_bytes y) more rest)

pub parted_record : (x y : Field) (more : List Field) (rest : List ℕ) → parted false [] (record_bytes (x ∷ y ∷ more) ++ rest) ≡ standing (x ∷ y ∷ more)
parted_record x y more rest =
    let tail = flat_map further_bytes (y ∷ more) in
    ap (λ t. parted false [] (t ++ rest)) (record_is x y more)
    ∙ ap (parted false []) (append_assoc (field_bytes x ++ tail) (10 ∷ []) rest ∙ append_assoc (field_bytes x) tail (10 ∷ rest))
    ∙ over_field x [] (tail ++ (10 ∷ rest)) ∙ over_more (field_bytes x) (y ∷ more) rest

-- ---- byte by byte

pub fields_none : fields_of [] ≡ []
unfolding fields_of
fields_none = refl

pub fields_more : (row : List (Bor (List ℕ))) (f : Bor (List ℕ)) → fields_of (row ++ f ∷ []) ≡ fields_of row ++ f.now ∷ []
unfolding fields_of
fields_more row f = map-append (λ (g : Bor (List ℕ)). g.now) row (f ∷ [])

parted_none : (quoted : Bool) (field : List ℕ) → parted quoted field [] ≡ field ∷ []
unfolding parted
parted_none quoted field = refl

-- whether what stands behind the byte is within quotes
abbrev pub quoted_behind : Bool → ℕ → Bool
quoted_behind quoted b = if b == 34 then not quoted else quoted

module _ (quoted : Bool) (field bytes : List ℕ) (i : ℕ) (within : i < length bytes) where
  abbrev here : ℕ
  here = get_or bytes i 0

  abbrev tail : List ℕ
  tail = drop (i + 1) bytes

  at_byte : parted quoted field (drop i bytes) ≡ parted quoted field (here ∷ tail)
  at_byte = ap (parted quoted field) (drop_more bytes i 0 within)

  parted_at_feed : here ≡ 10 → quoted ≡ false → parted quoted field (drop i bytes) ≡ field ∷ []
  parted_at_feed h out = at_byte ∙ ap (λ q. parted q field (here ∷ tail)) out ∙ ap (λ b. parted false field (b ∷ tail)) h ∙ at_feed field tail

  parted_at_comma : here ≡ 44 → quoted ≡ false → parted quoted field (drop i bytes) ≡ field ∷ parted false [] tail
  parted_at_comma h out = at_byte ∙ ap (λ q. parted q field (here ∷ tail)) out ∙ ap (λ b. parted false field (b ∷ tail)) h ∙ at_comma field tail

  parted_inside : (not quoted && (here == 10)) ≡ false → (not quoted && (here == 44)) ≡ false → parted quoted field (drop i bytes) ≡ parted (quoted_behind quoted here) (field ++ here ∷ []) tail
  unfolding parted
  parted_inside h k = at_byte ∙ rw (h, k) refl

-- the bytes from one place up to another
abbrev pub between : List ℕ → ℕ → ℕ → List ℕ
between bytes a e = take (e - a) (drop a bytes)

between_none : (bytes : List ℕ) (a : ℕ) → between bytes a a ≡ []
between_none bytes a = let none : a - a ≡ 0 = omega arith in ap (λ n. take n (drop a bytes)) none

between_more : (bytes : List ℕ) (a i : ℕ) → a ≤ i → i < length bytes → between bytes a (i + 1) ≡ between bytes a i ++ get_or bytes i 0 ∷ []
between_more bytes a i h k =
    let count : (i + 1) - a ≡ (i - a) + 1 = omega (arith, h) in
    let place : a + (i - a) ≡ i = omega (arith, h) in
    ap (λ n. take n (drop a bytes)) count ∙ take_more (drop a bytes) (i - a) 0 (omega (arith, h, k, length-drop a bytes))
    ∙ ap (λ b. take (i - a) (drop a bytes) ++ b ∷ []) (get_or-drop a bytes (i - a) 0 ∙ ap (λ j. get_or bytes j 0) place)

-- the fields so far, and what the rest is parted into
abbrev pub So : Bool → List Field → List ℕ → ℕ → ℕ → Type 0
So quoted fields bytes a i = fields ++ parted quoted (between bytes a i) (drop i bytes) ≡ parted false [] bytes

module _ (old new : List Field) (bytes : List ℕ) (a i : ℕ) (quoted : Bool) (pushed : new ≡ old ++ between bytes a i ∷ []) (so : So quoted old bytes a i) where
  closed : (more : List Field) → parted quoted (between bytes a i) (drop i bytes) ≡ between bytes a i ∷ more → new ++ more ≡ parted false [] bytes
  closed more h = ap (λ fs. fs ++ more) pushed ∙ append_assoc old (between bytes a i ∷ []) more ∙ ap (λ fs. old ++ fs) (sym h) ∙ so

  pub closed_at_feed : i < length bytes → get_or bytes i 0 ≡ 10 → quoted ≡ false → new ≡ parted false [] bytes
  closed_at_feed within h out = sym (append-nil (new)) ∙ closed [] (parted_at_feed quoted (between bytes a i) bytes i within h out)

  pub closed_at_end : length bytes ≤ i → new ≡ parted false [] bytes
  closed_at_end over = sym (append-nil (new)) ∙ closed [] (ap (parted quoted (between bytes a i)) (drop_all i bytes over) ∙ parted_none quoted (between bytes a i))

  pub closed_at_comma : i < length bytes → get_or bytes i 0 ≡ 44 → quoted ≡ false → So (quoted_behind quoted (get_or bytes i 0)) (new) bytes (i + 1) (i + 1)
  closed_at_comma within h out =
      ap (λ q. new ++ parted q (between bytes (i + 1) (i + 1)) (drop (i + 1) bytes)) (ap (quoted_behind quoted) h ∙ out)
      ∙ ap (λ w. new ++ parted false w (drop (i + 1) bytes)) (between_none bytes (i + 1)) ∙
      closed (parted false [] (drop (i + 1) bytes)) (parted_at_comma quoted (between bytes a i) bytes i within h out)

apart : (quoted : Bool) (b k : ℕ) → (b ≡ k → quoted ≡ false → ⊥) → (not quoted && (b == k)) ≡ false
apart true b k h = refl
apart false b k h = elim (cases_Bool (b == k)) [
  | inl same ↦ absurd (h (eqb-true b k same) refl)
  | inr other ↦ other
]

-- a test that fails, or is within quotes
pub not_outside : (P : Type 0) (quoted : Bool) → (P × (quoted ≡ true)) ⊎ (P → ⊥) → P → quoted ≡ false → ⊥
not_outside P quoted (inl (p, within)) q out = false≢true (sym out ∙ within)
not_outside P quoted (inr fails) q out = fails q

-- neither a line feed nor a comma, or within quotes
pub goes_on : (quoted : Bool) (fields : List Field) (bytes : List ℕ) (a i : ℕ) → a ≤ i → i < length bytes → (get_or bytes i 0 ≡ 10 → quoted ≡ false → ⊥) → (get_or bytes i 0 ≡ 44 → quoted ≡ false → ⊥)
    → So quoted fields bytes a i → So (quoted_behind quoted (get_or bytes i 0)) fields bytes a (i + 1)
goes_on quoted fields bytes a i h within feed comma so =
    let inside = parted_inside quoted (between bytes a i) bytes i within (apart quoted (get_or bytes i 0) 10 feed) (apart quoted (get_or bytes i 0) 44 comma) in
    ap (λ w. fields ++ parted (quoted_behind quoted (get_or bytes i 0)) w (drop (i + 1) bytes)) (between_more bytes a i h within) ∙ ap (λ fs. fields ++ fs) (sym inside) ∙ so

-- a byte above them all
pub goes_over : (quoted : Bool) (fields : List Field) (bytes : List ℕ) (a i : ℕ) → a ≤ i → i < length bytes → 44 < get_or bytes i 0 → So quoted fields bytes a i → So quoted fields bytes a (i + 1)
goes_over quoted fields bytes a i h within above so =
    let other : (get_or bytes i 0 == 34) ≡ false = grind (arith, nat_tests, above) in
    subst (λ q. So q fields bytes a (i + 1)) (ap (λ t. if t then not quoted else quoted) other)
    (goes_on quoted fields bytes a i h within (λ e out. omega (arith, above, e)) (λ e out. omega (arith, above, e)) so)
