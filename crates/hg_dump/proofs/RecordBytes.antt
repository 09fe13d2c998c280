-- Records that were written field by field.
use Rattle.std.proofs.Common.{◌≡◌, ℕ, ◌+◌, ◌<◌, ◌≤◌, List, [], ◌∷◌, ◌++◌, length, map, take, get_or, append_assoc, ap, sym, ◌∙◌}
use Rattle.std.proofs.lemmas.List.{append-nil, flat_map_more, map-append, take_all, take_more}
use Rattle.std.specs.List.{flat_map}
use Rattle.hg_base.specs.Text.{Field}
use Rattle.hg_records.specs.Bytes.{record_bytes, field_bytes, further_bytes}
use Rattle.hg_records.proofs.RecordBytes.{record_is}

pub written_two : (old a b now : List ℕ) (x y : Field) → a ≡ old ++ field_bytes x → b ≡ a ++ further_bytes y → now ≡ b ++ 10 ∷ []
    → now ≡ old ++ flat_map record_bytes ((x ∷ y ∷ []) ∷ [])
written_two old a b now x y e f g = rw (record_is, g, f, e) (simp (append_assoc, append-nil))

pub written_three : (old a b c now : List ℕ) (x y z : Field) → a ≡ old ++ field_bytes x → b ≡ a ++ further_bytes y → c ≡ b ++ further_bytes z → now ≡ c ++ 10 ∷ []
    → now ≡ old ++ record_bytes (x ∷ y ∷ z ∷ [])
written_three old a b c now x y z e f g h = rw (record_is, h, g, f, e) (simp (append_assoc, append-nil))

pub written_put : (old a b c d r now : List ℕ) (x y z k : Field) (more : List Field) → a ≡ old ++ field_bytes x → b ≡ a ++ further_bytes y → c ≡ b ++ further_bytes z → d ≡ c ++ further_bytes k
    → r ≡ d ++ flat_map further_bytes more → now ≡ r ++ 10 ∷ [] → now ≡ old ++ record_bytes (x ∷ y ∷ z ∷ k ∷ more)
written_put old a b c d r now x y z k more e f g h i j = rw (record_is, j, i, h, g, f, e) (simp append_assoc)

-- ---- item by item

-- the first items, and one more
pub next_item : {X Y : Type 0} (f : X → Y) (xs : List X) (i : ℕ) (x : X) → i < length xs → x ≡ get_or xs i x → map f (take (i + 1) xs) ≡ map f (take i xs) ++ f x ∷ []
next_item f xs i x inside is = ap (map f) (take_more xs i x inside ∙ ap (λ y. take i xs ++ y ∷ []) (sym is)) ∙ map-append f (take i xs) (x ∷ [])

-- the bytes of the items so far, and those of one more
pub one_more : {Y : Type 0} (h : Y → List ℕ) (before after : List Y) (y : Y) (old front now : List ℕ) → after ≡ before ++ y ∷ [] → front ≡ old ++ flat_map h before → now ≡ front ++ h y
    → now ≡ old ++ flat_map h after
one_more h before after y old front now more e f =
    f ∙ (ap (λ (bytes : List ℕ). bytes ++ h y) e ∙ (flat_map_more h old before y ∙ ap (λ l. old ++ flat_map h l) (sym more)))

-- the bytes of as many first items as there are
pub all_written : {X : Type 0} (f : List X → List ℕ) (xs : List X) (i : ℕ) (old now : List ℕ) → length xs ≤ i → now ≡ old ++ f (take i xs) → now ≡ old ++ f xs
all_written f xs i old now past e = e ∙ ap (λ l. old ++ f l) (take_all i xs past)
