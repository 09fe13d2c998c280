-- The rows of a range, bucket by bucket.
use Rattle.std.proofs.Common.{◌≡◌, ℕ, suc, ◌<◌, ◌≤◌, ◌⊎◌, inl, inr, List, [], ◌∷◌, map, Bool, true, false, Some, None, refl, sym, ap, ◌∙◌, arith}
use Rattle.std.specs.Prelude.{◌==◌, ◌||◌, cond, filter, if◌then◌else◌, IsTrue, Contains}
use Rattle.std.specs.List.{list_any}
use Rattle.std.proofs.lemmas.Bool.Decides.{Decides-eqb}
use Rattle.std.proofs.lemmas.Bool.{or_left, or_right}
use Rattle.hg_base.specs.declared.rid.Rid.{Rid}
use Rattle.hg_base.specs.declared.rid.TableId.{TableId}
use Rattle.hg_base.specs.declared.image.Image.{Image}
use Rattle.hg_base.specs.declared.value.Value.{Value}
use Rattle.hg_base.specs.Lists.{Each, Ascends}
use Rattle.hg_base.specs.History.{nothing}
use Rattle.hg_base.specs.Replies.{AreRows}
use Rattle.hg_base.proofs.ListFacts.{each_keeps}
use Rattle.hg_core.specs.Contents.{bucket_of}
use Rattle.hg_core.specs.Replies.{in_bucket}
use Rattle.hg_core.specs.Reading.{IsReached, Joins}
use Rattle.hg_core.proofs.OwnKeys.{reached}
use Rattle.hg_headline.proofs.Words.{same_number, ascends_cons}

pub contains_first : {X : Type 0} (x : X) (xs : List X) → Contains (x ∷ xs) x
contains_first x xs = (0, omega arith, refl)

pub contains_more : {X : Type 0} (y x : X) (xs : List X) → Contains xs x → Contains (y ∷ xs) x
contains_more y x xs c = let k = c.1 in (suc c.0, omega (arith, k), c.2)

-- those that pass a test are of the list
pub filter_contained : {X : Type 0} (p : X → Bool) (xs : List X) → Each (λ x. Contains xs x) (filter p xs)
filter_contained p [] = tt
filter_contained p (x ∷ xs) = go (p x) (each_keeps (λ z. Contains xs z) (λ z. Contains (x ∷ xs) z) (λ z c. contains_more x z xs c) (filter p xs) (filter_contained p xs))
  where
    go : (b : Bool) → Each (λ z. Contains (x ∷ xs) z) (filter p xs) → Each (λ z. Contains (x ∷ xs) z) (cond b (x ∷ filter p xs) (filter p xs))
    go true h = (contains_first x xs, h)
    go false h = h

-- and each of the list that passes is among them
pub passing_contained : {X : Type 0} (p : X → ℕ) (b : ℕ) (xs : List X) → Each (λ x. (p x == b) ≡ true → Contains (filter (λ z. p z == b) xs) x) xs
passing_contained p b [] = tt
passing_contained p b (x ∷ xs) = go (p x == b) refl (passing_contained p b xs)
  where
    go : (t : Bool) → (p x == b) ≡ t → Each (λ z. (p z == b) ≡ true → Contains (filter (λ z. p z == b) xs) z) xs →
        Each (λ z. (p z == b) ≡ true → Contains (cond t (x ∷ filter (λ z. p z == b) xs) (filter (λ z. p z == b) xs)) z) (x ∷ xs)
    go true e h = (
      λ k. contains_first x (filter (λ z. p z == b) xs),
      each_keeps _ (λ z. (p z == b) ≡ true → Contains (x ∷ filter (λ z. p z == b) xs) z)
          (λ z f k. contains_more x z (filter (λ z. p z == b) xs) (f k)) xs h,
    )
    go false e h = (λ k. absurd (let q : false ≡ true = sym e ∙ k in cc), h)

-- ---- ascending keys

pub ascends_over : (a : ℕ) (xs : List ℕ) → Ascends (a ∷ xs) → Each (λ m. a < m) xs
ascends_over a [] h = tt
ascends_over a (x ∷ xs) h = (h.0, each_keeps (λ m. x < m) (λ m. a < m) (λ m k. less m h.0 k) xs (ascends_over x xs h.1))
  where
    less : (m : ℕ) → a < x → x < m → a < m
    less m p q = omega (arith, p, q)

pub ascends_rest : (a : ℕ) (xs : List ℕ) → Ascends (a ∷ xs) → Ascends xs
ascends_rest a [] h = tt
ascends_rest a (x ∷ xs) h = h.1

pub each_filtered : {X : Type 0} (P : ℕ → Type 0) (f : X → ℕ) (p : X → Bool) (xs : List X) → Each P (map f xs) → Each P (map f (filter p xs))
each_filtered P f p [] h = tt
each_filtered P f p (x ∷ xs) h = go (p x) (each_filtered P f p xs h.1)
  where
    go : (b : Bool) → Each P (map f (filter p xs)) → Each P (map f (cond b (x ∷ filter p xs) (filter p xs)))
    go true k = (h.0, k)
    go false k = k

pub ascends_filtered : {X : Type 0} (f : X → ℕ) (p : X → Bool) (xs : List X) → Ascends (map f xs) → Ascends (map f (filter p xs))
ascends_filtered f p [] h = tt
ascends_filtered f p (x ∷ xs) h = go (p x) (ascends_filtered f p xs (ascends_rest (f x) (map f xs) h))
  where
    go : (b : Bool) → Ascends (map f (filter p xs)) → Ascends (map f (cond b (x ∷ filter p xs) (filter p xs)))
    go true k = ascends_cons (f x) (map f (filter p xs)) (each_filtered (λ m. f x < m) f p xs (ascends_over (f x) (map f xs) h)) k
    go false k = k

-- ---- parts

-- the bucket of a row, and the rows of one bucket
abbrev pub bucket_in : ℕ → TableId → ℕ × List Value → ℕ
bucket_in buckets table p = bucket_of buckets (record { table = table; key = p.0 })

abbrev pub part_of : ℕ → TableId → List (ℕ × List Value) → ℕ → List (ℕ × List Value)
part_of buckets table rows b = filter (λ p. bucket_in buckets table p == b) rows

pub parts_join : (buckets : ℕ) (table : TableId) (look : ℕ → Image) (low high : ℕ) (rows : List (ℕ × List Value)) → ((r : Rid) → bucket_of buckets r < buckets) →
    AreRows look low high rows → Joins (IsReached buckets table low high) (part_of buckets table rows) rows
parts_join buckets table look low high rows places are = record {
  ascend = are.ascend;
  each = own rows rows (λ b. passing_contained (bucket_in buckets table) b rows) are.each;
  every = λ b k. filter_contained (λ (p : ℕ × List Value). bucket_in buckets table p == b) rows;
}
  where
    own : (all xs : List (ℕ × List Value)) → ((b : ℕ) → Each (λ p. (bucket_in buckets table p == b) ≡ true → Contains (part_of buckets table all b) p) xs) →
        Each (λ p. (low ≤ p.0) × (p.0 ≤ high) × ((look p.0).row ≡ Some p.1)) xs →
        Each (λ (p : ℕ × List Value). (b : ℕ) × IsReached buckets table low high b × Contains (part_of buckets table all b) p) xs
    own all [] f h = tt
    own all (x ∷ xs) f h = (
      (
        bucket_in buckets table x,
        (places (record { table = table; key = x.0 }), reached buckets table low high x.0 h.0.0 h.0.1),
        (f (bucket_in buckets table x)).0
            (same_number (bucket_in buckets table x)),
      ),
      own all xs (λ b. (f b).1) h.1,
    )

-- the rows of one bucket are those that it shows
pub part_rows : (buckets b : ℕ) (table : TableId) (f : Rid → Image) (low high : ℕ) (rows : List (ℕ × List Value)) →
    AreRows (λ key. f (record { table = table; key = key })) low high rows → AreRows (in_bucket buckets b table f) low high (part_of buckets table rows b)
part_rows buckets b table f low high rows a = record {
  ascend = ascends_filtered (λ (p : ℕ × List Value). p.0) (λ p. bucket_in buckets table p == b) rows a.ascend;
  each = own rows a.each;
  every = λ key lo hi. here key (bucket_of buckets (record { table = table; key = key }) == b) refl (a.every key lo hi);
}
  where
    Whole : ℕ × List Value → Type 0
    Whole p = (low ≤ p.0) × (p.0 ≤ high) × ((f (record { table = table; key = p.0 })).row ≡ Some p.1)

    Part : ℕ × List Value → Type 0
    Part p = (low ≤ p.0) × (p.0 ≤ high) × ((in_bucket buckets b table f p.0).row ≡ Some p.1)

    own : (xs : List (ℕ × List Value)) → Each Whole xs → Each Part (part_of buckets table xs b)
    own [] h = tt
    own (x ∷ xs) h = go (bucket_in buckets table x == b) refl (own xs h.1)
      where
        go : (t : Bool) → (bucket_in buckets table x == b) ≡ t → Each Part (part_of buckets table xs b) → Each Part (cond t (x ∷ part_of buckets table xs b) (part_of buckets table xs b))
        go true e k = ((h.0.0, h.0.1, ap (λ t. (if t then f (record { table = table; key = x.0 }) else nothing).row) e ∙ h.0.2), k)
        go false e k = k

    any_kept : (key : ℕ) (xs : List (ℕ × List Value)) → (bucket_of buckets (record { table = table; key = key }) == b) ≡ true →
        list_any (λ (p : ℕ × List Value). p.0 == key) xs ≡ true → list_any (λ (p : ℕ × List Value). p.0 == key) (part_of buckets table xs b) ≡ true
    any_kept key [] e h = h
    any_kept key (x ∷ xs) e h = go (x.0 == key) refl h (any_kept key xs e)
      where
        more : (t : Bool) → list_any (λ (p : ℕ × List Value). p.0 == key) (part_of buckets table xs b) ≡ true →
            list_any (λ (p : ℕ × List Value). p.0 == key) (cond t (x ∷ part_of buckets table xs b) (part_of buckets table xs b)) ≡ true
        more true k = or_right (x.0 == key) (list_any (λ (p : ℕ × List Value). p.0 == key) (part_of buckets table xs b)) k
        more false k = k

        go : (t : Bool) → (x.0 == key) ≡ t → (t || list_any (λ (p : ℕ × List Value). p.0 == key) xs) ≡ true →
            (list_any (λ (p : ℕ × List Value). p.0 == key) xs ≡ true → list_any (λ (p : ℕ × List Value). p.0 == key) (part_of buckets table xs b) ≡ true) →
            list_any (λ (p : ℕ × List Value). p.0 == key) (part_of buckets table (x ∷ xs) b) ≡ true
        go true q k f =
            let same : x.0 ≡ key = (Decides-eqb x.0 key).0 q in
            let mine : (bucket_in buckets table x == b) ≡ true = ap (λ n. bucket_of buckets (record { table = table; key = n }) == b) same ∙ e in
            ap (λ t. list_any (λ (p : ℕ × List Value). p.0 == key) (cond t (x ∷ part_of buckets table xs b) (part_of buckets table xs b))) mine ∙
            or_left (x.0 == key) (list_any (λ (p : ℕ × List Value). p.0 == key) (part_of buckets table xs b)) q
        go false q k f = more (bucket_in buckets table x == b) (f k)

    here : (key : ℕ) (t : Bool) → (bucket_of buckets (record { table = table; key = key }) == b) ≡ t →
        IsTrue (list_any (λ (p : ℕ × List Value). p.0 == key) rows) ⊎ ((f (record { table = table; key = key })).row ≡ None) →
        IsTrue (list_any (λ (p : ℕ × List Value). p.0 == key) (part_of buckets table rows b)) ⊎ ((if t then f (record { table = table; key = key }) else nothing).row ≡ None)
    here key true e (inl k) = inl (any_kept key rows e k)
    here key true e (inr k) = inr k
    here key false e k = inr refl
