-- Rows that are put in order, of which the first ones are kept.
use Rattle.std.proofs.Common.{◌≡◌, ℕ, zero, suc, ◌+◌, ◌<◌, ◌≤◌, ◌⊎◌, inl, inr, List, [], ◌∷◌, map, length, take, get_or, true, false, refl, sym, ap, ◌∙◌, subst, arith}
use Rattle.std.specs.Prelude.{nat_eq, nat_lt, nat_le, if◌then◌else◌, slice_get, Some, Contains}
use Rattle.std.specs.List.{IsDistinct, All, sum_by}
use Rattle.std.specs.List.Sorted.{IsPermutation, IsNonDecreasingBy}
use Rattle.std.proofs.lemmas.Bool.Decides.{Decides-eqb, nat_tests}
use Rattle.std.proofs.lemmas.Map.Keys.{IsDistinct-head, IsDistinct-tail, IsDistinct-IsPermutation}
use Rattle.std.proofs.lemmas.List.Sorted.{IsPermutation-map, All-permutation, Contains-permutation, sum_by-IsPermutation}
use Rattle.std.proofs.lemmas.List.Sums.{sum_by-cons}
use Rattle.hg_base.specs.declared.rid.TableId.{TableId}
use Rattle.hg_base.specs.declared.value.Value.{Value}
use Rattle.hg_base.specs.Lists.{Each, Ascends}
use Rattle.hg_base.proofs.ListFacts.{cases, each_keeps, each_at}
use Rattle.hg_base.specs.Transcript.{last_key}
use Rattle.hg_rule.specs.declared.view.View.{View}
use Rattle.hg_cursor.specs.Keys.{Rows}
use Rattle.hg_cursor.specs.Firsts.{one_upto, Keeps}
use Rattle.hg_cursor.proofs.Keys.{differ, is_apart}
use Rattle.hg_cursor.proofs.Rows.{key_of}
use Rattle.hg_cursor.proofs.Uniqueness.{ascends_tail}
use Rattle.hg_cursor.proofs.Gathering.{IsGathered, all_count, all_over, ascends_distinct}

-- ---- in order

pub ascends_sorted : (rows : Rows) → IsNonDecreasingBy key_of rows → IsDistinct nat_eq (map key_of rows) → Ascends (map key_of rows)
ascends_sorted [] s d = tt
ascends_sorted (p ∷ []) s d = tt
ascends_sorted (p ∷ q ∷ rows) s d =
    let le : p.0 ≤ q.0 = s 0 1 p (omega arith) (omega arith) in
    let apart : nat_eq p.0 q.0 ≡ false = (IsDistinct-head nat_eq p.0 (q.0 ∷ map key_of rows) d).0 in
    let differs : p.0 ≡ q.0 → ⊥ = differ p.0 q.0 apart in
    (less p.0 q.0 le differs, ascends_sorted (q ∷ rows) (λ i j x l m. s (suc i) (suc j) x (omega (arith, l)) (omega (arith, m))) (IsDistinct-tail nat_eq p.0 (q.0 ∷ map key_of rows) d))
  where
    less : (a b : ℕ) → a ≤ b → (a ≡ b → ⊥) → a < b
    less a b le n = cases (nat_lt a b) (λ t. grind (arith, nat_tests, t)) (λ f. absurd (n (grind (arith, nat_tests, f, le))))

pub nat_eq_flips : (x y : ℕ) → nat_eq x y ≡ nat_eq y x
nat_eq_flips x y = cases (nat_eq x y) (λ t. t ∙ sym ((Decides-eqb y x).1 (sym ((Decides-eqb x y).0 t)))) (λ f. f ∙ sym (is_apart y x (λ e. differ x y f (sym e))))

each_get : (P : ℕ × List Value → Type 0) (xs : Rows) (i : ℕ) (d : ℕ × List Value) → i < length xs → Each P xs → P (get_or xs i d)
each_get P [] i d less e = absurd (omega (arith, less))
each_get P (x ∷ xs) zero d less e = e.0
each_get P (x ∷ xs) (suc i) d less e = let l : i < length xs = omega (arith, less) in each_get P xs i d l e.1

pub each_permuted : (P : ℕ × List Value → Type 0) (xs ys : Rows) → IsPermutation xs ys → Each P xs → Each P ys
each_permuted P xs ys q e = all_each ys (All-permutation P xs ys q (λ k d less. each_get P xs k d less e))
  where
    all_each : (zs : Rows) → All P zs → Each P zs
    all_each [] a = tt
    all_each (z ∷ zs) a = (a 0 z (omega arith), all_each zs (λ k d less. a (suc k) d (omega (arith, less))))

-- ---- the first of them

take_length : (n : ℕ) (xs : Rows) → n ≤ length xs → length (take n xs) ≡ n
take_length zero xs l = refl
take_length (suc n) [] l = absurd (omega (arith, l))
take_length (suc n) (x ∷ xs) l = ap suc (take_length n xs (omega (arith, l)))

take_all : (n : ℕ) (xs : Rows) → length xs ≤ n → take n xs ≡ xs
take_all zero [] l = refl
take_all zero (x ∷ xs) l = absurd (omega (arith, l))
take_all (suc n) [] l = refl
take_all (suc n) (x ∷ xs) l = ap (λ ys. x ∷ ys) (take_all n xs (omega (arith, l)))

each_take : (P : ℕ × List Value → Type 0) (n : ℕ) (xs : Rows) → Each P xs → Each P (take n xs)
each_take P zero xs e = tt
each_take P (suc n) [] e = tt
each_take P (suc n) (x ∷ xs) e = (e.0, each_take P n xs e.1)

ascends_take : (n : ℕ) (xs : Rows) → Ascends (map key_of xs) → Ascends (map key_of (take n xs))
ascends_take zero xs a = tt
ascends_take (suc n) [] a = tt
ascends_take (suc zero) (x ∷ xs) a = tt
ascends_take (suc (suc n)) (x ∷ []) a = tt
ascends_take (suc (suc n)) (x ∷ y ∷ xs) a = (a.0, ascends_take (suc n) (y ∷ xs) a.1)

-- all rows after one are over it
over_first : (x : ℕ × List Value) (xs : Rows) → Ascends (map key_of (x ∷ xs)) → Each (λ p. x.0 < p.0) xs
over_first x xs a = unmapped xs (all_over x.0 (map key_of xs) a)
  where
    unmapped : (ys : Rows) → Each (λ k. x.0 < k) (map key_of ys) → Each (λ p. x.0 < p.0) ys
    unmapped [] e = tt
    unmapped (y ∷ ys) e = (e.0, unmapped ys e.1)

none_count : (limit : ℕ) (xs : Rows) → Each (λ p. limit < p.0) xs → sum_by (one_upto limit) xs ≡ 0
none_count limit [] e = refl
none_count limit (x ∷ xs) e = cases (nat_le x.0 limit)
    (λ t. let l = e.0 in absurd (grind (arith, nat_tests, t, l)))
    (λ f.
    let one : one_upto limit x ≡ 0 = ap (λ b. if b then 1 else 0) f in
    let sum = sum_by-cons (one_upto limit) x xs in
    let rest = none_count limit xs e.1 in
    omega (arith, one, sum, rest))

-- where so many rows are up to a key, the first ones are
first_upto : (n limit : ℕ) (xs : Rows) → Ascends (map key_of xs) → n ≤ sum_by (one_upto limit) xs → Each (λ p. p.0 ≤ limit) (take n xs)
first_upto zero limit xs a m = tt
first_upto (suc n) limit [] a m = tt
first_upto (suc n) limit (x ∷ xs) a m = cases (nat_le x.0 limit)
    (λ t.
    let one : one_upto limit x ≡ 1 = ap (λ b. if b then 1 else 0) t in
    let sum = sum_by-cons (one_upto limit) x xs in
    let rest : n ≤ sum_by (one_upto limit) xs = omega (arith, m, one, sum) in
    (grind (arith, nat_tests, t), first_upto n limit xs (ascends_tail x.0 (map key_of xs) a) rest))
    (λ f.
    let over : limit < x.0 = grind (arith, nat_tests, f) in
    let none : sum_by (one_upto limit) (x ∷ xs) ≡ 0 = none_count limit (x ∷ xs) (over, each_keeps _ (λ p. limit < p.0) (λ p l. omega (arith, l, over)) xs (over_first x xs a)) in
    absurd (omega (arith, m, none)))

pub count_few : (limit : ℕ) (xs : Rows) → sum_by (one_upto limit) xs ≤ length xs
count_few limit [] = omega arith
count_few limit (x ∷ xs) = let rest = count_few limit xs in cases (nat_le x.0 limit)
    (λ t. let one : one_upto limit x ≡ 1 = ap (λ b. if b then 1 else 0) t in let sum = sum_by-cons (one_upto limit) x xs in omega (arith, one, sum, rest))
    (λ f. let one : one_upto limit x ≡ 0 = ap (λ b. if b then 1 else 0) f in let sum = sum_by-cons (one_upto limit) x xs in omega (arith, one, sum, rest))

-- ---- the last key

pub last_of : (P : ℕ → Type 0) (none : ℕ) (xs : Rows) → 0 < length xs → Each (λ p. P p.0) xs → P (last_key none xs)
last_of P none [] l e = absurd (omega (arith, l))
last_of P none (x ∷ []) l e = e.0
last_of P none (x ∷ y ∷ xs) l e = last_of P none (y ∷ xs) (omega arith) e.1

pub last_got : (none : ℕ) (xs : Rows) (i : ℕ) (x : ℕ × List Value) → i + 1 ≡ length xs → slice_get xs i ≡ Some x → last_key none xs ≡ x.0
last_got none [] i x l e = absurd (omega (arith, l))
last_got none (y ∷ []) zero x l e = ap (λ p. p.0) (inside y x e)
  where
    inside : (p q : ℕ × List Value) → Some p ≡ Some q → p ≡ q
    inside p q e = cc
last_got none (y ∷ []) (suc i) x l e = absurd (omega (arith, l))
last_got none (y ∷ z ∷ xs) zero x l e = absurd (omega (arith, l))
last_got none (y ∷ z ∷ xs) (suc i) x l e = last_got none (z ∷ xs) i x (omega (arith, l)) e

pub last_same : (m n : ℕ) (xs : Rows) → 0 < length xs → last_key m xs ≡ last_key n xs
last_same m n [] l = absurd (omega (arith, l))
last_same m n (x ∷ []) l = refl
last_same m n (x ∷ y ∷ xs) l = last_same m n (y ∷ xs) (omega arith)

pub all_upto_last : (none : ℕ) (xs : Rows) → Ascends (map key_of xs) → Each (λ p. p.0 ≤ last_key none xs) xs
all_upto_last none [] a = tt
all_upto_last none (x ∷ []) a = (omega arith, tt)
all_upto_last none (x ∷ y ∷ xs) a = let rest = all_upto_last none (y ∷ xs) a.1 in let l = a.0 in let m = rest.0 in (omega (arith, l, m), rest)

-- a row up to the last of the first ones is one of them
first_has : (n none : ℕ) (xs : Rows) (p : ℕ × List Value) → 0 < n → Ascends (map key_of xs) → Contains xs p → p.0 ≤ last_key none (take n xs) → Contains (take n xs) p
first_has zero none xs p some a c l = absurd (omega (arith, some))
first_has (suc n) none [] p some a (k, within, e) l = absurd (omega (arith, within))
first_has (suc n) none (x ∷ xs) p some a (zero, within, e) l = (0, omega arith, e)
first_has (suc zero) none (x ∷ xs) p some a (suc k, within, e) l = let over = each_at (λ q. x.0 < q.0) xs p (over_first x xs a) (k, omega (arith, within), e) in absurd (omega (arith, over, l))
first_has (suc (suc n)) none (x ∷ []) p some a (suc k, within, e) l = absurd (omega (arith, within))
first_has (suc (suc n)) none (x ∷ y ∷ xs) p some a (suc k, within, e) l = further (first_has (suc n) none (y ∷ xs) p (omega arith) a.1 (k, omega (arith, within), e) l)
  where
    further : Contains (take (suc n) (y ∷ xs)) p → Contains (x ∷ take (suc n) (y ∷ xs)) p
    further (i, w, s) = (suc i, omega (arith, w), s)

-- ---- what was gathered, of which only the first rows are kept

pub record IsCut (count n : ℕ) (v : View) (table : TableId) (low high number limit upto : ℕ) (rows : Rows) (w : View) : Type 0 where
  pub gathered : IsGathered count n v table low high number upto rows w
  pub less : upto ≤ limit
  pub few : length rows ≤ n
  pub ascend : Ascends (map key_of rows)
  pub below : Each (λ p. p.0 ≤ upto) rows

module _ (count n : ℕ) (v w : View) (table : TableId) (low high number limit upto : ℕ) (rows new : Rows) (some : 0 < n)
    (s : IsGathered count n v table low high number limit rows w) (k : Keeps n limit rows new upto) where
  IsOfSome : ℕ × List Value → Type 0
  IsOfSome p = (i : ℕ) × (i < number) × Contains (s.part i) p

  sorted_ascends : Ascends (map key_of k.sorted)
  sorted_ascends = ascends_sorted k.sorted k.order (IsDistinct-IsPermutation nat_eq nat_eq_flips (map key_of rows) (map key_of k.sorted) (IsPermutation-map key_of rows k.sorted k.permutes) s.distinct)

  sorted_each : Each (λ p. (i : ℕ) × (i < number) × Contains (s.part i) p) k.sorted
  sorted_each = each_permuted (λ p. (i : ℕ) × (i < number) × Contains (s.part i) p) rows k.sorted k.permutes s.each

  sorted_count : (m : ℕ) → sum_by (one_upto m) k.sorted ≡ sum_by (one_upto m) rows
  sorted_count m = sum_by-IsPermutation (one_upto m) rows k.sorted k.permutes

  up_to_high : Each (λ p. p.0 ≤ high) k.sorted
  up_to_high = each_keeps _ (λ p. p.0 ≤ high) (λ p c. (each_at (λ q. (low ≤ q.0) × (q.0 ≤ high)) (s.part c.0) p (s.inside c.0 c.1) c.2).1) k.sorted sorted_each

  -- fewer than n
  cut_few : length k.sorted < n → IsCut count n v table low high number limit upto new w
  cut_few l =
      let is : new ≡ k.sorted = k.is ∙ take_all n k.sorted (omega (arith, l)) in
      let short : nat_lt (length new) n ≡ true = let m = ap length is in grind (arith, nat_tests, l, m) in
      let same : upto ≡ limit = k.upto_is ∙ ap (λ b. if b then limit else last_key limit new) short in
      let all : limit ≡ high = to_high s.enough in
      record {
        gathered = record {
          once = s.once;
          reached = s.reached;
          part = s.part;
          adds = s.adds;
          own = s.own;
          inside = s.inside;
          each = subst (Each (λ p. (i : ℕ) × (i < number) × Contains (s.part i) p)) (sym is) sorted_each;
          every = λ i less. each_keeps (λ p. p.0 ≤ limit → Contains rows p) (λ p. p.0 ≤ upto → Contains new p)
              (λ p f m. subst (λ r. Contains r p) (sym is) (Contains-permutation rows k.sorted p k.permutes (f (omega (arith, m, same))))) (s.part i) (s.every i less);
          distinct = subst (λ r. IsDistinct nat_eq (map key_of r)) (sym is) (ascends_distinct (map key_of k.sorted) sorted_ascends);
          within = let b = s.within in omega (arith, b, same);
          enough = inl (same ∙ all);
        };
        less = omega (arith, same);
        few = let m = ap length is in omega (arith, m, l);
        ascend = subst (λ r. Ascends (map key_of r)) (sym is) sorted_ascends;
        below = subst (Each (λ p. p.0 ≤ upto)) (sym is) (each_keeps (λ p. p.0 ≤ high) (λ p. p.0 ≤ upto) (λ p m. omega (arith, m, same, all)) k.sorted up_to_high);
      }
    where
      to_high : (limit ≡ high) ⊎ (n ≤ sum_by (one_upto limit) rows) → limit ≡ high
      to_high (inl e) = e
      to_high (inr many) = let same = sorted_count limit in let few = count_few limit k.sorted in absurd (omega (arith, many, same, few, l))

  -- n or more
  cut_many : n ≤ length k.sorted → IsCut count n v table low high number limit upto new w
  cut_many l =
      let long : length (take n k.sorted) ≡ n = take_length n k.sorted l in
      let full : length new ≡ n = ap length k.is ∙ long in
      let not_short : nat_lt (length new) n ≡ false = grind (arith, nat_tests, full) in
      let last : upto ≡ last_key limit new = k.upto_is ∙ ap (λ b. if b then limit else last_key limit new) not_short in
      let last_taken : upto ≡ last_key limit (take n k.sorted) = last ∙ ap (last_key limit) k.is in
      let ascend : Ascends (map key_of new) = subst (λ r. Ascends (map key_of r)) (sym k.is) (ascends_take n k.sorted sorted_ascends) in
      let limited : Each (λ p. p.0 ≤ limit) new = subst (Each (λ p. p.0 ≤ limit)) (sym k.is) (up_to_limit s.enough) in
      let less : upto ≤ limit = subst (λ m. m ≤ limit) (sym last) (last_of (λ m. m ≤ limit) limit new (omega (arith, full, some)) limited) in
      let below : Each (λ p. p.0 ≤ upto) new = subst (λ m. Each (λ p. p.0 ≤ m) new) (sym last) (all_upto_last limit new ascend) in
      record {
        gathered = record {
          once = s.once;
          reached = s.reached;
          part = s.part;
          adds = s.adds;
          own = s.own;
          inside = s.inside;
          each = subst (Each (λ p. (i : ℕ) × (i < number) × Contains (s.part i) p)) (sym k.is) (each_take (λ p. (i : ℕ) × (i < number) × Contains (s.part i) p) n k.sorted sorted_each);
          every = λ i under. each_keeps (λ p. p.0 ≤ limit → Contains rows p) (λ p. p.0 ≤ upto → Contains new p)
              (λ p f m. subst (λ r. Contains r p) (sym k.is) (first_has n limit k.sorted p some sorted_ascends
              (Contains-permutation rows k.sorted p k.permutes (f (omega (arith, m, less)))) (omega (arith, m, last_taken)))) (s.part i) (s.every i under);
          distinct = ascends_distinct (map key_of new) ascend;
          within = let b = s.within in omega (arith, b, less);
          enough = inr (let all = all_count upto new below in omega (arith, all, full));
        };
        less = less;
        few = omega (arith, full);
        ascend = ascend;
        below = below;
      }
    where
      up_to_limit : (limit ≡ high) ⊎ (n ≤ sum_by (one_upto limit) rows) → Each (λ p. p.0 ≤ limit) (take n k.sorted)
      up_to_limit (inl e) = each_take (λ p. p.0 ≤ limit) n k.sorted (each_keeps (λ p. p.0 ≤ high) (λ p. p.0 ≤ limit) (λ p m. omega (arith, m, e)) k.sorted up_to_high)
      up_to_limit (inr many) = let same = sorted_count limit in first_upto n limit k.sorted sorted_ascends (omega (arith, many, same))

  pub cut : IsCut count n v table low high number limit upto new w
  cut = cases (nat_lt (length k.sorted) n) (λ t. cut_few (grind (arith, nat_tests, t))) (λ f. cut_many (grind (arith, nat_tests, f)))
