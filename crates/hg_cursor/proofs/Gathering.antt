-- The first rows of some buckets: bucket by bucket.
use Rattle.std.proofs.Common.{◌≡◌, ℕ, zero, suc, ◌+◌, ◌<◌, ◌≤◌, ◌⊎◌, inl, inr, List, [], ◌∷◌, ◌++◌, map, length, Bool, true, false, cond, refl, sym, ap, ◌∙◌, subst, arith}
use Rattle.std.specs.Prelude.{◌==◌, nat_eq, nat_lt, nat_le, if◌then◌else◌, Contains}
use Rattle.std.specs.List.{IsDistinct, AllByRecursion, sum_by}
use Rattle.std.proofs.lemmas.Bool.Decides.{Decides-eqb, nat_tests}
use Rattle.std.proofs.lemmas.Map.Keys.{IsDistinct-head, IsDistinct-tail, IsDistinct-cons}
use Rattle.std.proofs.lemmas.List.Elements.{Contains-append_left, Contains-append_right}
use Rattle.std.proofs.lemmas.List.Sums.{sum_by-cons}
use Rattle.hg_base.specs.declared.rid.TableId.{TableId}
use Rattle.hg_base.specs.declared.value.Value.{Value}
use Rattle.hg_base.specs.Lists.{Each, Ascends}
use Rattle.hg_base.proofs.ListFacts.{cases, each_append, each_keeps, each_at}
use Rattle.hg_core.specs.declared.log.LogEntry.TheVariants.{Saw}
use Rattle.hg_core.specs.Contents.{bucket_of}
use Rattle.hg_core.specs.Reading.{bucket_at, looks}
use Rattle.hg_bucket.specs.BucketModel.{record_at}
use Rattle.hg_rule.specs.declared.view.View.{View}
use Rattle.hg_rule.specs.Views.{HasOnlySession}
use Rattle.hg_cursor.specs.Firsts.{one_upto, count_upto, rows_upto}
use Rattle.hg_cursor.specs.Keys.{Rows, IsOwnKey}
use Rattle.hg_cursor.specs.Logs.{Adds}
use Rattle.hg_cursor.specs.Looks.{Takes}
use Rattle.hg_cursor.specs.Cursors.{LooksAt}
use Rattle.hg_cursor.proofs.Keys.{is_apart, far_apart}
use Rattle.hg_cursor.proofs.Rows.{key_of, map_append, each_mapped, still_enough}
use Rattle.hg_cursor.proofs.Uniqueness.{ascends_tail}
use Rattle.hg_cursor.proofs.Trips.{adds_none, adds_one}

-- The rows up to a key of the first buckets, which were looked at; and no other ones are among the first n.
pub record IsGathered (count n : ℕ) (v : View) (table : TableId) (low high number limit : ℕ) (rows : Rows) (w : View) : Type 0 where
  pub once : number ≤ count
  pub reached : low + number ≤ high + 1
  pub part : ℕ → Rows
  pub adds : Adds v (looks count table low high part number) w
  pub own : (i : ℕ) → i < number → Each (λ p. IsOwnKey count (bucket_at count table low i) table p.0) (part i)
  pub inside : (i : ℕ) → i < number → Each (λ p. (low ≤ p.0) × (p.0 ≤ high)) (part i)
  pub each : Each (λ p. (i : ℕ) × (i < number) × Contains (part i) p) rows
  pub every : (i : ℕ) → i < number → Each (λ p. p.0 ≤ limit → Contains rows p) (part i)
  pub distinct : IsDistinct nat_eq (map key_of rows)
  pub within : limit ≤ high
  pub enough : (limit ≡ high) ⊎ (n ≤ sum_by (one_upto limit) rows)

-- ---- distinct numbers

all_of : (P : ℕ → Type 0) (xs : List ℕ) → Each P xs → AllByRecursion P xs
all_of P [] e = tt
all_of P (x ∷ xs) e = (e.0, all_of P xs e.1)

each_of : (P : ℕ → Type 0) (xs : List ℕ) → AllByRecursion P xs → Each P xs
each_of P [] e = tt
each_of P (x ∷ xs) e = (e.0, each_of P xs e.1)

pub distinct_append : (xs ys : List ℕ) → IsDistinct nat_eq xs → IsDistinct nat_eq ys → Each (λ x. Each (λ y. nat_eq x y ≡ false) ys) xs → IsDistinct nat_eq (xs ++ ys)
distinct_append [] ys a b e = b
distinct_append (x ∷ xs) ys a b e =
    IsDistinct-cons nat_eq x (xs ++ ys)
    (all_of (λ y. nat_eq x y ≡ false) (xs ++ ys) (each_append (λ y. nat_eq x y ≡ false) xs ys (each_of (λ y. nat_eq x y ≡ false) xs (IsDistinct-head nat_eq x xs a)) e.0))
    (distinct_append xs ys (IsDistinct-tail nat_eq x xs a) b e.1)

-- ascending numbers are distinct
pub all_over : (x : ℕ) (xs : List ℕ) → Ascends (x ∷ xs) → Each (λ y. x < y) xs
all_over x [] a = tt
all_over x (y ∷ ys) a = (a.0, each_keeps (λ z. y < z) (λ z. x < z) (λ z l. let k = a.0 in omega (arith, k, l)) ys (all_over y ys a.1))

pub nothing_twice : IsDistinct nat_eq []
unfolding IsDistinct
nothing_twice = tt

pub ascends_distinct : (xs : List ℕ) → Ascends xs → IsDistinct nat_eq xs
ascends_distinct [] a = nothing_twice
ascends_distinct (x ∷ xs) a = IsDistinct-cons nat_eq x xs (all_of (λ y. nat_eq x y ≡ false) xs
    (each_keeps (λ y. x < y) (λ y. nat_eq x y ≡ false) (λ y l. is_apart x y (λ e. absurd (omega (arith, l, e)))) xs (all_over x xs a))) (ascends_distinct xs (ascends_tail x xs a))

-- ---- the looks

-- only the parts of those buckets count
looks_same : (count : ℕ) (table : TableId) (low high : ℕ) (p q : ℕ → Rows) (n : ℕ) → ((i : ℕ) → i < n → p i ≡ q i) → looks count table low high p n ≡ looks count table low high q n
looks_same count table low high p q zero same = refl
looks_same count table low high p q (suc n) same =
    let rest = looks_same count table low high p q n (λ i l. same i (omega (arith, l))) in
    λ i. Saw table low high (bucket_at count table low n) (same n (omega arith) i) ∷ rest i

-- the parts with one more
pub with_part : (ℕ → Rows) → ℕ → Rows → ℕ → Rows
with_part part n rows i = cond (i == n) rows (part i)

pub part_here : (part : ℕ → Rows) (n : ℕ) (rows : Rows) → with_part part n rows n ≡ rows
unfolding with_part
part_here part n rows = ap (λ t. cond t rows (part n)) ((Decides-eqb n n).1 refl)

pub part_else : (part : ℕ → Rows) (n : ℕ) (rows : Rows) (i : ℕ) → i < n → with_part part n rows i ≡ part i
unfolding with_part
part_else part n rows i l = ap (λ t. cond t rows (part i)) (is_apart i n (λ e. absurd (omega (arith, l, e))))

-- ---- bucket by bucket

pub none_gathered : (count n : ℕ) (v : View) (table : TableId) (low high : ℕ) → low ≤ high → HasOnlySession v → IsGathered count n v table low high 0 high [] v
none_gathered count n v table low high some only = record {
  once = omega arith;
  reached = omega (arith, some);
  part = λ i. [];
  adds = adds_none v only;
  own = λ i l. absurd (omega (arith, l));
  inside = λ i l. absurd (omega (arith, l));
  each = tt;
  every = λ i l. absurd (omega (arith, l));
  distinct = nothing_twice;
  within = omega arith;
  enough = inl refl;
}

-- rows up to a key count, each, also up to a later one
pub all_count : (limit : ℕ) (rows : Rows) → Each (λ p. p.0 ≤ limit) rows → length rows ≤ sum_by (one_upto limit) rows
all_count limit [] e = omega arith
all_count limit (p ∷ rows) e = cases (nat_le p.0 limit)
    (λ t.
    let rest = all_count limit rows e.1 in
    let one : one_upto limit p ≡ 1 = ap (λ b. if b then 1 else 0) t in
    let sum = sum_by-cons (one_upto limit) p rows in
    omega (arith, rest, one, sum))
    (λ f. let l = e.0 in absurd (grind (arith, nat_tests, f, l)))

module _ (count n : ℕ) (v u w : View) (table : TableId) (low high number limit upto : ℕ) (rows new : Rows) (s : IsGathered count n v table low high number limit rows u)
    (part : Rows) (adds : Adds u (Saw table low high (bucket_at count table low number) part ∷ []) w) where
  parts : ℕ → Rows
  parts = with_part s.part number part

  -- one look more
  more_added : Adds v (looks count table low high parts (suc number)) w
  unfolding parts
  more_added =
      let joined = adds_one v u w (Saw table low high (bucket_at count table low number) part) (looks count table low high s.part number) s.adds adds in
      let earlier = looks_same count table low high s.part (with_part s.part number part) number (λ i l. sym (part_else s.part number part i l)) in
      subst (λ es. Adds v es w) (λ i. Saw table low high (bucket_at count table low number) (sym (part_here s.part number part) i) ∷ earlier i) joined

  pub stops : number < count → low + number ≤ limit → LooksAt count v table low high w
  stops l m = let b = s.within in record { number = suc number; once = omega (arith, l); reached = omega (arith, m, b); part = parts; adds = more_added }

  earlier_row : (p : ℕ × List Value) → ((i : ℕ) × (i < number) × Contains (s.part i) p) → (i : ℕ) × (i < suc number) × Contains (parts i) p
  unfolding parts
  earlier_row p (i, l, c) = (i, omega (arith, l), subst (λ r. Contains r p) (sym (part_else s.part number part i l)) c)

  later_row : (p : ℕ × List Value) → Contains part p → (i : ℕ) × (i < suc number) × Contains (parts i) p
  unfolding parts
  later_row p c = (number, omega arith, subst (λ r. Contains r p) (sym (part_here s.part number part)) c)

  -- what holds of each part, and of this one, holds of each
  each_part : (P : ℕ → Rows → Type 0) → ((i : ℕ) → i < number → P i (s.part i)) → P number part → (i : ℕ) → i < suc number → P i (parts i)
  unfolding parts
  each_part P old here i l = cases (nat_lt i number)
      (λ t. let less : i < number = grind (arith, nat_tests, t) in subst (P i) (sym (part_else s.part number part i less)) (old i less))
      (λ f. let same : number ≡ i = grind (arith, nat_tests, f, l) in subst (λ m. P m (with_part s.part number part m)) same (subst (P number) (sym (part_here s.part number part)) here))

  pub one_gathered : number < count → low + number ≤ limit → Each (λ p. (low ≤ p.0) × (p.0 ≤ high)) part →
      Each (λ p. IsOwnKey count (bucket_at count table low number) table p.0) part → Takes n limit part rows new upto → IsGathered count n v table low high (suc number) upto new w
  unfolding parts
  one_gathered l m inside own t = let b = s.within in let q = t.within in record {
    once = omega (arith, l);
    reached = omega (arith, m, b);
    part = parts;
    adds = more_added;
    own = each_part (λ i r. Each (λ p. IsOwnKey count (bucket_at count table low i) table p.0) r) s.own own;
    inside = each_part (λ i r. Each (λ p. (low ≤ p.0) × (p.0 ≤ high)) r) s.inside inside;
    each = subst (Each IsOfSome) (sym t.is) (each_append IsOfSome rows t.more (each_keeps _ IsOfSome earlier_row rows s.each) (each_keeps _ IsOfSome (λ p c. later_row p c.0) t.more t.each));
    every = each_part (λ i r. Each (λ p. p.0 ≤ upto → Contains new p) r)
        (λ i less. each_keeps (λ p. p.0 ≤ limit → Contains rows p) (λ p. p.0 ≤ upto → Contains new p)
        (λ p f k. subst (λ r. Contains r p) (sym t.is) (Contains-append_left rows t.more p (f (omega (arith, k, q))))) (s.part i) (s.every i less))
        (each_keeps (λ p. p.0 ≤ upto → Contains t.more p) (λ p. p.0 ≤ upto → Contains new p) (λ p f k. subst (λ r. Contains r p) (sym t.is) (Contains-append_right rows t.more p (f k))) part t.every);
    distinct = subst (IsDistinct nat_eq) (sym (ap (map key_of) t.is ∙ map_append rows t.more))
        (distinct_append (map key_of rows) (map key_of t.more) s.distinct (ascends_distinct (map key_of t.more) t.ascend) apart_keys);
    within = omega (arith, b, q);
    enough = still_enough n upto limit high rows t.more new t.is t.enough s.enough;
  }
    where
      IsOfSome : ℕ × List Value → Type 0
      IsOfSome p = (i : ℕ) × (i < suc number) × Contains (parts i) p

      apart_keys : Each (λ x. Each (λ y. nat_eq x y ≡ false) (map key_of t.more)) (map key_of rows)
      apart_keys = each_mapped (λ x. Each (λ y. nat_eq x y ≡ false) (map key_of t.more)) rows
          (each_keeps (λ p. (i : ℕ) × (i < number) × Contains (s.part i) p) (λ p. Each (λ y. nat_eq p.0 y ≡ false) (map key_of t.more))
          (λ p c. each_mapped (λ y. nat_eq p.0 y ≡ false) t.more
          (each_keeps _ (λ r. nat_eq p.0 r.0 ≡ false) (λ r k. is_apart p.0 r.0 (differ p r c k.0)) t.more t.each))
          rows s.each)
        where
          differ : (p r : ℕ × List Value) → ((i : ℕ) × (i < number) × Contains (s.part i) p) → Contains part r → p.0 ≡ r.0 → ⊥
          differ p r (i, less, c) k e =
              let here : bucket_of count (record_at table p.0) ≡ bucket_at count table low i = each_at (λ x. IsOwnKey count (bucket_at count table low i) table x.0) (s.part i) p (s.own i less) c in
              let there : bucket_of count (record_at table r.0) ≡ bucket_at count table low number = each_at (λ x. IsOwnKey count (bucket_at count table low number) table x.0) part r own k in
              let same = far_apart count table low i number (omega (arith, less, l)) l (sym here ∙ (ap (λ x. bucket_of count (record_at table x)) e ∙ there)) in
              omega (arith, less, same)

-- ---- only the rows up to the limit

each_upto : (P : ℕ × List Value → Type 0) (limit : ℕ) (xs : Rows) → Each P xs → Each P (rows_upto limit xs)
each_upto P limit [] e = tt
each_upto P limit (x ∷ xs) e = go (nat_le x.0 limit) (each_upto P limit xs e.1)
  where
    go : (b : Bool) → Each P (rows_upto limit xs) → Each P (cond b (x ∷ rows_upto limit xs) (rows_upto limit xs))
    go true rest = (e.0, rest)
    go false rest = rest

has_upto : (limit : ℕ) (xs : Rows) (p : ℕ × List Value) → Contains xs p → p.0 ≤ limit → Contains (rows_upto limit xs) p
has_upto limit [] p (k, within, e) l = absurd (omega (arith, within))
has_upto limit (x ∷ xs) p (zero, within, e) l =
    let under : nat_le x.0 limit ≡ true = let m = subst (λ q. q.0 ≤ limit) (sym e) l in grind (arith, nat_tests, m) in
    subst (λ b. Contains (cond b (x ∷ rows_upto limit xs) (rows_upto limit xs)) p) (sym under) (0, omega arith, e)
has_upto limit (x ∷ xs) p (suc k, within, e) l = go (nat_le x.0 limit) (has_upto limit xs p (k, omega (arith, within), e) l)
  where
    go : (b : Bool) → Contains (rows_upto limit xs) p → Contains (cond b (x ∷ rows_upto limit xs) (rows_upto limit xs)) p
    go true (i, w, s) = (suc i, omega (arith, w), s)
    go false c = c

distinct_upto : (limit : ℕ) (xs : Rows) → IsDistinct nat_eq (map key_of xs) → IsDistinct nat_eq (map key_of (rows_upto limit xs))
distinct_upto limit [] d = d
distinct_upto limit (x ∷ xs) d = go (nat_le x.0 limit) (distinct_upto limit xs (IsDistinct-tail nat_eq x.0 (map key_of xs) d))
  where
    apart : (ys : Rows) → Each (λ y. nat_eq x.0 y ≡ false) (map key_of ys) → Each (λ p. nat_eq x.0 p.0 ≡ false) ys
    apart [] e = tt
    apart (y ∷ ys) e = (e.0, apart ys e.1)

    go : (b : Bool) → IsDistinct nat_eq (map key_of (rows_upto limit xs)) → IsDistinct nat_eq (map key_of (cond b (x ∷ rows_upto limit xs) (rows_upto limit xs)))
    go true rest =
        let differs = each_upto (λ p. nat_eq x.0 p.0 ≡ false) limit xs (apart xs (each_of (λ y. nat_eq x.0 y ≡ false) (map key_of xs) (IsDistinct-head nat_eq x.0 (map key_of xs) d))) in
        IsDistinct-cons nat_eq x.0 (map key_of (rows_upto limit xs))
        (all_of (λ y. nat_eq x.0 y ≡ false) (map key_of (rows_upto limit xs)) (each_mapped (λ y. nat_eq x.0 y ≡ false) (rows_upto limit xs) differs)) rest
    go false rest = rest

count_stays : (limit : ℕ) (xs : Rows) → count_upto limit (rows_upto limit xs) ≡ count_upto limit xs
count_stays limit [] = refl
count_stays limit (x ∷ xs) = cases (nat_le x.0 limit)
    (λ t.
    let here : rows_upto limit (x ∷ xs) ≡ x ∷ rows_upto limit xs = ap (λ b. cond b (x ∷ rows_upto limit xs) (rows_upto limit xs)) t in
    let more = sum_by-cons (one_upto limit) x (rows_upto limit xs) in
    let all = sum_by-cons (one_upto limit) x xs in
    let rest = count_stays limit xs in
    let same = ap (sum_by (one_upto limit)) here in
    omega (arith, same, more, all, rest))
    (λ f.
    let here : rows_upto limit (x ∷ xs) ≡ rows_upto limit xs = ap (λ b. cond b (x ∷ rows_upto limit xs) (rows_upto limit xs)) f in
    let one : one_upto limit x ≡ 0 = ap (λ b. if b then 1 else 0) f in
    let all = sum_by-cons (one_upto limit) x xs in
    let rest = count_stays limit xs in
    let same = ap (sum_by (one_upto limit)) here in
    omega (arith, same, one, all, rest))

pub up_to_limit : (count n : ℕ) (v w : View) (table : TableId) (low high number limit : ℕ) (rows : Rows) → IsGathered count n v table low high number limit rows w →
    IsGathered count n v table low high number limit (rows_upto limit rows) w
up_to_limit count n v w table low high number limit rows s = record {
  once = s.once;
  reached = s.reached;
  part = s.part;
  adds = s.adds;
  own = s.own;
  inside = s.inside;
  each = each_upto (λ p. (i : ℕ) × (i < number) × Contains (s.part i) p) limit rows s.each;
  every = λ i l. each_keeps _ (λ p. p.0 ≤ limit → Contains (rows_upto limit rows) p) (λ p f m. has_upto limit rows p (f m) m) (s.part i) (s.every i l);
  distinct = distinct_upto limit rows s.distinct;
  within = s.within;
  enough = go s.enough;
}
  where
    go : (limit ≡ high) ⊎ (n ≤ count_upto limit rows) → (limit ≡ high) ⊎ (n ≤ count_upto limit (rows_upto limit rows))
    go (inl e) = inl e
    go (inr many) = let same = count_stays limit rows in inr (omega (arith, many, same))
