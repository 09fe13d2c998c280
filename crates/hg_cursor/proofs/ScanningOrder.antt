-- The rows of all buckets, the looks at them, and the order of the rows.
use Rattle.std.proofs.Common.{◌≡◌, ℕ, zero, suc, ◌<◌, List, [], ◌∷◌, ◌++◌, map, true, false, Result, refl, sym, ap, ◌∙◌, subst, arith}
use Rattle.std.specs.Prelude.{nat_eq, nat_lt, if◌then◌else◌, IsTrue, Contains}
use Rattle.std.specs.List.{IsDistinct}
use Rattle.std.specs.List.Sorted.{IsPermutation, IsNonDecreasingBy}
use Rattle.std.proofs.lemmas.Bool.Decides.{nat_tests}
use Rattle.std.proofs.lemmas.Map.Keys.{IsDistinct-IsPermutation}
use Rattle.std.proofs.lemmas.List.Sorted.{IsPermutation-map, Contains-permutation}
use Rattle.std.proofs.lemmas.List.Elements.{Contains-append_left, Contains-append_right}
use Rattle.hg_base.specs.declared.rid.TableId.{TableId}
use Rattle.hg_base.specs.declared.fault.NoMemory.{NoMemory}
use Rattle.hg_base.specs.declared.value.Value.{Value}
use Rattle.hg_base.specs.Lists.{Each}
use Rattle.hg_base.proofs.ListFacts.{cases, each_append, each_keeps}
use Rattle.hg_core.specs.declared.log.LogEntry.TheVariants.{Saw}
use Rattle.hg_core.specs.Contents.{bucket_of, has_own}
use Rattle.hg_core.specs.Reading.{IsReached, saws}
use Rattle.hg_bucket.specs.BucketModel.{record_at}
use Rattle.hg_rule.specs.declared.view.View.{View}
use Rattle.hg_rule.specs.Views.{HasOnlySession}
use Rattle.hg_cursor.specs.Keys.{Rows, IsOwnKey}
use Rattle.hg_cursor.proofs.Keys.{is_apart}
use Rattle.hg_cursor.proofs.Rows.{key_of, map_append, each_mapped}
use Rattle.hg_cursor.proofs.Gathering.{distinct_append, nothing_twice, ascends_distinct, with_part, part_here, part_else}
use Rattle.hg_cursor.proofs.Cutting.{ascends_sorted, nat_eq_flips, each_permuted}
use Rattle.hg_cursor.specs.Logs.{Adds}
use Rattle.hg_cursor.specs.Scans.{SeesAll, ScansAll, ScansSome}
use Rattle.hg_cursor.proofs.Trips.{adds_none, adds_one}

-- one of the first n buckets, which can have a key of the range
abbrev pub IsOneOf : ℕ → TableId → ℕ → ℕ → ℕ → ℕ → Type 0
IsOneOf count table low high n b = (b < n) × IsTrue (has_own count table low high b)

-- the row is of one of them, which are its key's own
abbrev pub IsOfSome : ℕ → TableId → ℕ → ℕ → (ℕ → Rows) → ℕ → ℕ × List Value → Type 0
IsOfSome count table low high part n p = ((b : ℕ) × IsOneOf count table low high n b × Contains (part b) p) × (bucket_of count (record_at table p.0) < n)

-- the rows of those are there, and one look at each was logged
pub record IsScanned (count : ℕ) (v : View) (table : TableId) (low high n : ℕ) (rows : Rows) (w : View) : Type 0 where
  pub part : ℕ → Rows
  pub adds : Adds v (saws count table low high part n) w
  pub each : Each (IsOfSome count table low high part n) rows
  pub every : (b : ℕ) → IsOneOf count table low high n b → Each (λ p. Contains rows p) (part b)
  pub distinct : IsDistinct nat_eq (map key_of rows)

-- ---- the looks

-- only the parts of those buckets count
saws_same : (count : ℕ) (table : TableId) (low high : ℕ) (p q : ℕ → Rows) (n : ℕ) → ((b : ℕ) → b < n → p b ≡ q b) → saws count table low high p n ≡ saws count table low high q n
saws_same count table low high p q zero same = refl
saws_same count table low high p q (suc n) same =
    let rest = saws_same count table low high p q n (λ b l. same b (omega (arith, l))) in
    λ i. if has_own count table low high n then Saw table low high n (same n (omega arith) i) ∷ rest i else rest i

-- ---- bucket by bucket

pub none_scanned : (count : ℕ) (v : View) (table : TableId) (low high : ℕ) → HasOnlySession v → IsScanned count v table low high 0 [] v
none_scanned count v table low high only = record {
  part = λ b. [];
  adds = adds_none v only;
  each = tt;
  every = λ b l. let none = l.0 in absurd (omega (arith, none));
  distinct = nothing_twice;
}

module _ {T : Type 0} (count : ℕ) (v u w : View) (table : TableId) (low high n : ℕ) (rows new : Rows) (answer : Result T NoMemory) (s : IsScanned count v table low high n rows u)
    (has : has_own count table low high n ≡ true) (k : SeesAll count u table low high n rows answer w new) where
  parts : ℕ → Rows
  parts = with_part s.part n k.part

  -- one look more
  more_added : Adds v (saws count table low high parts (suc n)) w
  unfolding parts
  more_added =
      let joined = adds_one v u w (Saw table low high n k.part) (saws count table low high s.part n) s.adds k.adds in
      let earlier = saws_same count table low high s.part (with_part s.part n k.part) n (λ b l. sym (part_else s.part n k.part b l)) in
      subst (λ es. Adds v es w) (λ i. if sym has i then Saw table low high n (sym (part_here s.part n k.part) i) ∷ earlier i else earlier i) joined

  pub stops : n < count → ScansSome count v table low high w
  stops l = record { seen = suc n; within = omega (arith, l); part = parts; adds = more_added }

  earlier_row : (p : ℕ × List Value) → IsOfSome count table low high s.part n p → IsOfSome count table low high parts (suc n) p
  unfolding parts
  earlier_row p q = ((q.0.0, (let l = q.0.1.0 in omega (arith, l), q.0.1.1), subst (λ r. Contains r p) (sym (part_else s.part n k.part q.0.0 q.0.1.0)) q.0.2), let l = q.1 in omega (arith, l))

  later_row : (p : ℕ × List Value) → Contains k.part p → IsOwnKey count n table p.0 → IsOfSome count table low high parts (suc n) p
  unfolding parts
  later_row p c o = ((n, (omega arith, has), subst (λ r. Contains r p) (sym (part_here s.part n k.part)) c), omega (arith, o))

  apart_keys : Each (λ x. Each (λ y. nat_eq x y ≡ false) (map key_of k.part)) (map key_of rows)
  apart_keys = each_mapped (λ x. Each (λ y. nat_eq x y ≡ false) (map key_of k.part)) rows
      (each_keeps (IsOfSome count table low high s.part n) (λ p. Each (λ y. nat_eq p.0 y ≡ false) (map key_of k.part))
      (λ p q. each_mapped (λ y. nat_eq p.0 y ≡ false) k.part
      (each_keeps (λ r. IsOwnKey count n table r.0) (λ r. nat_eq p.0 r.0 ≡ false)
      (λ r o. is_apart p.0 r.0 (λ e. let less = q.1 in let moved = ap (λ x. bucket_of count (record_at table x)) e in absurd (omega (arith, less, o, moved)))) k.part k.own))
      rows s.each)

  pub one_scanned : new ≡ rows ++ k.part → IsScanned count v table low high (suc n) new w
  unfolding parts
  one_scanned e = record {
    part = parts;
    adds = more_added;
    each = subst (Each (IsOfSome count table low high parts (suc n))) (sym e)
        (each_append (IsOfSome count table low high parts (suc n)) rows k.part
        (each_keeps (IsOfSome count table low high s.part n) (IsOfSome count table low high parts (suc n)) earlier_row rows s.each) (all_later k.part (λ p c. c) k.own));
    every = λ b is. let l = is.0 in cases (nat_lt b n)
        (λ t. let less : b < n = grind (arith, nat_tests, t) in
        subst (Each (λ p. Contains new p)) (sym (part_else s.part n k.part b less))
        (each_keeps (λ p. Contains rows p) (λ p. Contains new p) (λ p c. subst (λ r. Contains r p) (sym e) (Contains-append_left rows k.part p c)) (s.part b) (s.every b (less, is.1))))
        (λ f. let same : n ≡ b = grind (arith, nat_tests, f, l) in
        subst (λ m. Each (λ p. Contains new p) (parts m)) same (subst (Each (λ p. Contains new p)) (sym (part_here s.part n k.part))
        (all_there k.part (λ p c. subst (λ r. Contains r p) (sym e) (Contains-append_right rows k.part p c)))));
    distinct = subst (IsDistinct nat_eq) (sym (ap (map key_of) e ∙ map_append rows k.part))
        (distinct_append (map key_of rows) (map key_of k.part) s.distinct (ascends_distinct (map key_of k.part) k.ascend) apart_keys);
  }
    where
      first_there : (x : ℕ × List Value) (xs : Rows) → Contains (x ∷ xs) x
      first_there x xs = (0, omega arith, refl)

      behind_there : (x y : ℕ × List Value) (xs : Rows) → Contains xs y → Contains (x ∷ xs) y
      behind_there x y xs c = Contains-append_right (x ∷ []) xs y c

      all_there : {P : ℕ × List Value → Type 0} (xs : Rows) → ((p : ℕ × List Value) → Contains xs p → P p) → Each P xs
      all_there [] f = tt
      all_there (x ∷ xs) f = (f x (first_there x xs), all_there xs (λ p c. f p (behind_there x p xs c)))

      all_later : (xs : Rows) → ((p : ℕ × List Value) → Contains xs p → Contains k.part p) → Each (λ p. IsOwnKey count n table p.0) xs → Each (IsOfSome count table low high parts (suc n)) xs
      all_later [] f o = tt
      all_later (x ∷ xs) f o = (later_row x (f x (first_there x xs)) o.0, all_later xs (λ p c. f p (behind_there x p xs c)) o.1)

-- a bucket that can have no key of the range is passed over
pub one_passed : (count : ℕ) (v w : View) (table : TableId) (low high n : ℕ) (rows : Rows) → has_own count table low high n ≡ false → IsScanned count v table low high n rows w →
    IsScanned count v table low high (suc n) rows w
one_passed count v w table low high n rows none s = record {
  part = s.part;
  adds = subst (λ es. Adds v es w) (λ i. if sym none i then Saw table low high n (s.part n) ∷ saws count table low high s.part n else saws count table low high s.part n) s.adds;
  each = each_keeps (IsOfSome count table low high s.part n) (IsOfSome count table low high s.part (suc n))
      (λ p q. ((q.0.0, (let l = q.0.1.0 in omega (arith, l), q.0.1.1), q.0.2), let l = q.1 in omega (arith, l))) rows s.each;
  every = λ b is. let l = is.0 in cases (nat_lt b n)
      (λ t. s.every b (grind (arith, nat_tests, t), is.1))
      (λ f. let same : n ≡ b = grind (arith, nat_tests, f, l) in absurd (differs (sym none ∙ ap (has_own count table low high) same ∙ is.1)));
  distinct = s.distinct;
}
  where
    differs : false ≡ true → ⊥
    differs e = cc

-- ---- in order

pub all_scanned : (count : ℕ) (v w : View) (table : TableId) (low high n : ℕ) (rows sorted : Rows) → n ≡ count → IsScanned count v table low high n rows w →
    IsPermutation rows sorted → IsNonDecreasingBy key_of sorted → ScansAll count v table low high sorted w
all_scanned count v w table low high n rows sorted all so_far p o =
    let s = subst (λ m. IsScanned count v table low high m rows w) all so_far in record {
      part = s.part;
      joins = record {
        ascend = ascends_sorted sorted o (IsDistinct-IsPermutation nat_eq nat_eq_flips (map key_of rows) (map key_of sorted) (IsPermutation-map key_of rows sorted p) s.distinct);
        each = each_permuted (λ q. (b : ℕ) × IsReached count table low high b × Contains (s.part b) q) rows sorted p
            (each_keeps (IsOfSome count table low high s.part count) (λ q. (b : ℕ) × IsReached count table low high b × Contains (s.part b) q) (λ q k. k.0) rows s.each);
        every = λ b l. each_keeps (λ q. Contains rows q) (λ q. Contains sorted q) (λ q c. Contains-permutation rows sorted q p c) (s.part b) (s.every b l);
      };
      adds = s.adds;
    }
