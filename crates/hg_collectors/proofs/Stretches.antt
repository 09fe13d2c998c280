-- Records are gone through a stretch at a time: records of one bucket that follow one another.
use Rattle.std.proofs.Common.{◌≡◌, ◌≢◌, ℕ, zero, suc, ◌+◌, ◌<◌, ◌≤◌, List, [], ◌∷◌, ◌++◌, length, map, reverse, take, drop, get_or, refl, sym, ap, ◌∙◌, subst, arith, append_assoc, cond, eq-eqb}
use Rattle.std.specs.Prelude.{nat_eq, Bool, true, false, Contains, Any, IsPermutation}
use Rattle.std.specs.List.{between, dedup, dedup_from}
use Rattle.std.specs.Ordering.{is_lt, nat_cmp, ordering_then}
use Rattle.std.specs.declared.cmp.Ordering.{Ordering}
use Rattle.std.specs.declared.cmp.Ordering.TheVariants.{Less, Equal, Greater}
use Rattle.std.specs.List.Sorted.{IsSorted, IsSortedByKey, IsStrictlyIncreasing}
use Rattle.std.proofs.lemmas.Bool.{ne_eqb}
use Rattle.std.proofs.lemmas.List.{get_or-map, length-map, reverse-append, take-append-drop, append_cancel_left}
use Rattle.std.proofs.lemmas.List.Edits.{split_between, length-between}
use Rattle.std.proofs.lemmas.List.Kept.{Contains-from_dedup}
use Rattle.std.proofs.lemmas.List.Sorted.{Contains-permutation, IsPermutation-sym}
use Rattle.std.proofs.lemmas.Map.Keys.{IsStrictlyIncreasing-dedup}
use Rattle.hg_base.specs.declared.rid.Rid.{Rid}
use Rattle.hg_base.specs.History.{same_rid}
use Rattle.hg_base.proofs.HistoryFacts.{same_rid_equal}
use Rattle.hg_core.specs.Contents.{bucket_of}
use Rattle.hg_collectors.specs.Cutting.{AreIn, BeginsElsewhere, stretches}

drop_between : (xs : List Rid) (i j : ℕ) → i ≤ j → drop i xs ≡ between i j xs ++ drop j xs
drop_between xs i j le = append_cancel_left (take i xs) _ _ (take-append-drop i xs ∙ split_between xs i j le)

module _ (z : ℕ) where
  abbrev numbers : List Rid → List ℕ
  numbers = map (bucket_of z)

  -- ---- one stretch more

  stretch_on : (b : ℕ) (xs ys : List Rid) → AreIn z b xs → BeginsElsewhere z b ys → dedup_from nat_eq b (numbers (xs ++ ys)) ≡ b ∷ stretches z ys
  stretch_on b [] [] here past = refl
  stretch_on b [] (y ∷ ys) here past = ap (λ t. cond t (dedup_from nat_eq b (numbers ys)) (b ∷ dedup_from nat_eq (bucket_of z y) (numbers ys))) (ne_eqb (bucket_of z y) b past)
  stretch_on b (x ∷ xs) ys here past =
      ap (λ t. cond t (dedup_from nat_eq b (numbers (xs ++ ys))) (b ∷ dedup_from nat_eq (bucket_of z x) (numbers (xs ++ ys)))) (eq-eqb (bucket_of z x) b here.0) ∙ stretch_on b xs ys here.1 past

  stretch_first : (b : ℕ) (xs ys : List Rid) → 0 < length xs → AreIn z b xs → BeginsElsewhere z b ys → stretches z (xs ++ ys) ≡ b ∷ stretches z ys
  stretch_first b [] ys some here past = absurd (omega (arith, some))
  stretch_first b (x ∷ xs) ys some here past = ap (λ k. dedup_from nat_eq k (numbers (xs ++ ys))) here.0 ∙ stretch_on b xs ys here.1 past

  -- the buckets that are left, after those that were visited, stay as they are
  pub stretch_left : (b : ℕ) (rids : List Rid) (i j : ℕ) (before after all : List ℕ) → i < j → j ≤ length rids → AreIn z b (between i j rids) → BeginsElsewhere z b (drop j rids) →
      reverse (stretches z (drop i rids)) ++ before ≡ all → after ≡ b ∷ before → reverse (stretches z (drop j rids)) ++ after ≡ all
  stretch_left b rids i j before after all lt le here past so_far visit =
      let rest = stretches z (drop j rids) in
      let first : stretches z (drop i rids) ≡ b ∷ rest = ap (stretches z) (drop_between rids i j (omega (arith, lt))) ∙
      stretch_first b (between i j rids) (drop j rids) (omega (arith, lt, le, length-between rids i j le)) here past in
      ap (λ l. reverse rest ++ l) visit ∙ sym (append_assoc (reverse rest) (b ∷ []) before) ∙
      ap (λ l. l ++ before) (sym (reverse-append (b ∷ []) rest)) ∙ ap (λ l. reverse l ++ before) (sym first) ∙ so_far

  -- ---- each record once

  twice : (j n : ℕ) (ys : List ℕ) → dedup_from nat_eq j (n ∷ n ∷ ys) ≡ dedup_from nat_eq j (n ∷ ys)
  twice j n ys = pick (nat_eq n j) refl
    where
      again : dedup_from nat_eq n (n ∷ ys) ≡ dedup_from nat_eq n ys
      again = ap (λ t. cond t (dedup_from nat_eq n ys) (n ∷ dedup_from nat_eq n ys)) (eq-eqb n n refl)

      pick : (t : Bool) → nat_eq n j ≡ t → dedup_from nat_eq j (n ∷ n ∷ ys) ≡ dedup_from nat_eq j (n ∷ ys)
      pick true q = ap (λ t. cond t (dedup_from nat_eq j (n ∷ ys)) (j ∷ dedup_from nat_eq n (n ∷ ys))) q
      pick false q =
          ap (λ t. cond t (dedup_from nat_eq j (n ∷ ys)) (j ∷ dedup_from nat_eq n (n ∷ ys))) q ∙ ap (λ l. j ∷ l) again ∙
          ap (λ t. cond t (dedup_from nat_eq j ys) (j ∷ dedup_from nat_eq n ys)) (sym q)

  once_from : (j : ℕ) (k : Rid) (xs : List Rid) → dedup_from nat_eq j (numbers (dedup_from same_rid k xs)) ≡ dedup_from nat_eq j (numbers (k ∷ xs))
  once_from j k [] = refl
  once_from j k (x ∷ xs) = pick (same_rid x k) refl (once_from j k xs) (once_from j x xs) (once_from (bucket_of z k) x xs)
    where
      Same : ℕ → Rid → Type 0
      Same m r = dedup_from nat_eq m (numbers (dedup_from same_rid r xs)) ≡ dedup_from nat_eq m (numbers (r ∷ xs))

      pick : (t : Bool) → same_rid x k ≡ t → Same j k → Same j x → Same (bucket_of z k) x → dedup_from nat_eq j (numbers (dedup_from same_rid k (x ∷ xs))) ≡ dedup_from nat_eq j (numbers (k ∷ x ∷ xs))
      pick true q kept next later =
          ap (λ t. dedup_from nat_eq j (numbers (cond t (dedup_from same_rid k xs) (k ∷ dedup_from same_rid x xs)))) q ∙ kept ∙
          sym (ap (λ r. dedup_from nat_eq j (bucket_of z k ∷ bucket_of z r ∷ numbers xs)) (same_rid_equal x k q) ∙ twice j (bucket_of z k) (numbers xs))
      pick false q kept next later =
          ap (λ t. dedup_from nat_eq j (numbers (cond t (dedup_from same_rid k xs) (k ∷ dedup_from same_rid x xs)))) q ∙
          (λ i. cond (nat_eq (bucket_of z k) j) (next i) (j ∷ later i))

  once : (k : Rid) (xs : List Rid) → dedup nat_eq (numbers (dedup_from same_rid k xs)) ≡ dedup_from nat_eq (bucket_of z k) (numbers xs)
  once k [] = refl
  once k (x ∷ xs) = pick (same_rid x k) refl (once k xs)
    where
      pick : (t : Bool) → same_rid x k ≡ t → dedup nat_eq (numbers (dedup_from same_rid k xs)) ≡ dedup_from nat_eq (bucket_of z k) (numbers xs) →
          dedup nat_eq (numbers (dedup_from same_rid k (x ∷ xs))) ≡ dedup_from nat_eq (bucket_of z k) (numbers (x ∷ xs))
      pick true q kept =
          ap (λ t. dedup nat_eq (numbers (cond t (dedup_from same_rid k xs) (k ∷ dedup_from same_rid x xs)))) q ∙ kept ∙
          sym (ap (λ t. cond t (dedup_from nat_eq (bucket_of z k) (numbers xs)) (bucket_of z k ∷ dedup_from nat_eq (bucket_of z x) (numbers xs)))
          (eq-eqb (bucket_of z x) (bucket_of z k) (ap (bucket_of z) (same_rid_equal x k q))))
      pick false q kept =
          ap (λ t. dedup nat_eq (numbers (cond t (dedup_from same_rid k xs) (k ∷ dedup_from same_rid x xs)))) q ∙ once_from (bucket_of z k) x xs

  stretches_once : (xs : List Rid) → stretches z (dedup same_rid xs) ≡ stretches z xs
  stretches_once [] = refl
  stretches_once (x ∷ xs) = once x xs

  -- ---- in ascending order

  first : Rid
  first = record { table = record { 0 = 0 }; key = 0 }

  numbers_sorted : (xs : List Rid) → IsSortedByKey (bucket_of z) nat_cmp xs → IsSorted nat_cmp (numbers xs)
  numbers_sorted xs up k d low within =
      let long : k + 1 < length xs = omega (arith, within, length-map xs (bucket_of z)) in
      let here = get_or-map (bucket_of z) xs k first d (omega (arith, long)) in
      let next = get_or-map (bucket_of z) xs (k + 1) first d long in
      (λ i. is_lt (nat_cmp (next i) (here i))) ∙ up k first low long

  pub stretches_rise : (sorted left : List Rid) → IsSortedByKey (bucket_of z) nat_cmp sorted → left ≡ dedup same_rid sorted → IsStrictlyIncreasing (stretches z left)
  stretches_rise sorted left up is = subst IsStrictlyIncreasing (sym (ap (stretches z) is ∙ stretches_once sorted)) (IsStrictlyIncreasing-dedup (numbers sorted) (numbers_sorted sorted up))

  -- each bucket has some of the records

  some_of : (b : ℕ) (xs : List Rid) (k : ℕ) → k < length (numbers xs) → get_or (numbers xs) k b ≡ b → Any (λ r. bucket_of z r ≡ b) xs
  some_of b [] k within at = absurd (omega (arith, within))
  some_of b (x ∷ xs) zero within at = (0, x, omega arith, refl, at)
  some_of b (x ∷ xs) (suc k) within at = let s = some_of b xs k (omega (arith, within)) at in (suc s.0, s.1, omega (arith, s.2), s.3, s.4)

  pub stretches_needed : (old sorted left : List Rid) → IsPermutation old sorted → left ≡ dedup same_rid sorted → (b : ℕ) → Contains (stretches z left) b → Any (λ r. bucket_of z r ≡ b) old
  stretches_needed old sorted left moved is b there =
      let c = Contains-from_dedup nat_eq (numbers left) b there in
      let s = some_of b left c.0 c.1 c.2 in
      let r = s.1 in
      let kept : Contains (dedup same_rid sorted) r = subst (λ l. Contains l r) is (s.0, s.2, s.3) in
      let was = Contains-permutation sorted old r (IsPermutation-sym old sorted moved) (Contains-from_dedup same_rid sorted r kept) in
      (was.0, r, was.1, was.2, s.4)

-- ---- the order of a sort by two keys

first_not_lt : (a b : Ordering) → is_lt (ordering_then a b) ≡ false → is_lt a ≡ false
first_not_lt Less b h = h
first_not_lt Equal b h = refl
first_not_lt Greater b h = refl

pub by_first : {X Y : Type 0} (f : X → ℕ) (g : X → Y) (R : Y → Y → Ordering) (xs : List X) →
    IsSortedByKey (λ x. (f x, g x)) (λ (s t : ℕ × Y). ordering_then (nat_cmp s.0 t.0) (R s.1 t.1)) xs → IsSortedByKey f nat_cmp xs
by_first f g R xs up k d low within = first_not_lt _ _ (up k d low within)

-- what follows a stretch
pub ends_none : (z b : ℕ) (xs : List Rid) (j : ℕ) → length xs ≤ j → BeginsElsewhere z b (drop j xs)
ends_none z b [] zero le = tt
ends_none z b [] (suc j) le = tt
ends_none z b (x ∷ xs) zero le = absurd (omega (arith, le))
ends_none z b (x ∷ xs) (suc j) le = ends_none z b xs j (omega (arith, le))

pub ends_there : (z b : ℕ) (xs : List Rid) (j : ℕ) (d : Rid) → j < length xs → bucket_of z (get_or xs j d) ≢ b → BeginsElsewhere z b (drop j xs)
ends_there z b [] j d within other = absurd (omega (arith, within))
ends_there z b (x ∷ xs) zero d within other = other
ends_there z b (x ∷ xs) (suc j) d within other = ends_there z b xs j d (omega (arith, within)) other
