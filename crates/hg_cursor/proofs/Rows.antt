-- The rows of one bucket, key by key.
use Rattle.std.proofs.Common.{◌≡◌, ℕ, suc, ◌+◌, ◌-◌, ◌<◌, ◌≤◌, ◌⊎◌, inl, inr, List, [], ◌∷◌, ◌++◌, map, Bool, true, false, Option, Some, None, refl, sym, ap, ◌∙◌, subst, arith, append_assoc}
use Rattle.std.specs.Prelude.{◌==◌, ◌||◌, nat_lt, IsTrue, ⊤}
use Rattle.std.specs.List.{list_any, sum_by}
use Rattle.std.proofs.lemmas.Bool.Decides.{Decides-eqb, nat_tests}
use Rattle.std.proofs.lemmas.List.Sums.{sum_by-append}
use Rattle.hg_base.specs.declared.image.Image.{Image}
use Rattle.hg_base.specs.declared.value.Value.{Value}
use Rattle.hg_base.specs.Lists.{Each, Ascends}
use Rattle.hg_base.proofs.ListFacts.{cases, append_nil, each_snoc, each_keeps, any_more}
use Rattle.hg_cursor.specs.Keys.{Rows, rows_at, IsWithin, LeadsOn}
use Rattle.hg_cursor.specs.Firsts.{one_upto, count_upto}
use Rattle.hg_cursor.specs.Looks.{Appends}

abbrev pub key_of : ℕ × List Value → ℕ
key_of p = p.0

-- the key is before the next one
abbrev pub IsPast : Option ℕ → ℕ → Type 0
IsPast None key = ⊤
IsPast (Some k) key = key < k

-- the rows are all before it
abbrev pub AreBefore : Option ℕ → Rows → Type 0
AreBefore None rows = ⊤
AreBefore (Some k) rows = Each (λ p. p.0 < k) rows

-- the rows before the next key are there
pub record IsSoFar (shown : ℕ → Image) (low high : ℕ) (old rows : Rows) (next : Option ℕ) : Type 0 where
  pub more : Rows
  pub is : rows ≡ old ++ more
  pub ascend : Ascends (map (λ p. p.0) more)
  pub each : Each (λ p. (low ≤ p.0) × (p.0 ≤ high) × ((shown p.0).row ≡ Some p.1)) more
  pub every : (key : ℕ) → low ≤ key → key ≤ high → IsPast next key → IsTrue (list_any (λ p. p.0 == key) more) ⊎ ((shown key).row ≡ None)
  pub below : AreBefore next more

-- the rows up to a key are there
pub record IsUpTo (shown : ℕ → Image) (low high : ℕ) (old rows : Rows) (k : ℕ) : Type 0 where
  pub more : Rows
  pub is : rows ≡ old ++ more
  pub ascend : Ascends (map (λ p. p.0) more)
  pub each : Each (λ p. (low ≤ p.0) × (p.0 ≤ high) × ((shown p.0).row ≡ Some p.1)) more
  pub every : (key : ℕ) → low ≤ key → key ≤ high → key ≤ k → IsTrue (list_any (λ p. p.0 == key) more) ⊎ ((shown key).row ≡ None)
  pub below : Each (λ p. p.0 ≤ k) more

pub ascends_snoc : (ns : List ℕ) (k : ℕ) → Ascends ns → Each (λ n. n < k) ns → Ascends (ns ++ k ∷ [])
ascends_snoc [] k a b = tt
ascends_snoc (m ∷ []) k a b = (b.0, tt)
ascends_snoc (m ∷ n ∷ ns) k a b = (a.0, ascends_snoc (n ∷ ns) k a.1 b.1)

pub map_append : (xs ys : Rows) → map key_of (xs ++ ys) ≡ map key_of xs ++ map key_of ys
map_append [] ys = refl
map_append (x ∷ xs) ys = ap (λ ns. x.0 ∷ ns) (map_append xs ys)

pub each_mapped : (P : ℕ → Type 0) (xs : Rows) → Each (λ p. P p.0) xs → Each P (map key_of xs)
each_mapped P [] e = tt
each_mapped P (x ∷ xs) e = (e.0, each_mapped P xs e.1)

pub any_later : {X : Type 0} (p : X → Bool) (xs ys : List X) → IsTrue (list_any p ys) → IsTrue (list_any p (xs ++ ys))
any_later p [] ys h = h
any_later p (x ∷ xs) ys h = go (p x) (any_later p xs ys h)
  where
    go : (b : Bool) → IsTrue (list_any p (xs ++ ys)) → IsTrue (b || list_any p (xs ++ ys))
    go true e = refl
    go false e = e

-- ---- key by key

module _ (shown : ℕ → Image) (Sought : ℕ → Type 0) (low high : ℕ) (old : Rows) (gone : (key : ℕ) → (Sought key → ⊥) → (shown key).row ≡ None) where
  pub begins : (next : Option ℕ) → LeadsOn Sought low high next → IsSoFar shown low high old old next
  begins None n = record { more = []; is = sym (append_nil old); ascend = tt; each = tt; every = λ key l h past. inr (gone key (n key l h)); below = tt }
  begins (Some k) n = record {
    more = [];
    is = sym (append_nil old);
    ascend = tt;
    each = tt;
    every = λ key l h past. inr (gone key (λ there. let m = n key l h there in absurd (omega (arith, m, past))));
    below = tt;
  }

  pub row_added : (rows new : Rows) (k : ℕ) → low ≤ k → k ≤ high → IsSoFar shown low high old rows (Some k) → new ≡ rows ++ rows_at k (shown k).row → IsUpTo shown low high old new k
  row_added rows new k from to s e = go (shown k).row refl
    where
      weak : Each (λ p. p.0 ≤ k) s.more
      weak = each_keeps (λ p. p.0 < k) (λ p. p.0 ≤ k) (λ p l. omega (arith, l)) s.more s.below

      go : (o : Option (List Value)) → (shown k).row ≡ o → IsUpTo shown low high old new k
      go None n = record {
        more = s.more;
        is = e ∙ ap (λ o. rows ++ rows_at k o) n ∙ append_nil rows ∙ s.is;
        ascend = s.ascend;
        each = s.each;
        every = λ key l h m. cases (nat_lt key k)
            (λ t. let less : key < k = grind (arith, nat_tests, t) in s.every key l h less)
            (λ f. let same : k ≡ key = grind (arith, nat_tests, f, m) in inr (ap (λ q. (shown q).row) (sym same) ∙ n));
        below = weak;
      }
      go (Some row) n = record {
        more = s.more ++ (k, row) ∷ [];
        is = e ∙ ap (λ o. rows ++ rows_at k o) n ∙ ap (λ xs. xs ++ (k, row) ∷ []) s.is ∙ append_assoc old s.more ((k, row) ∷ []);
        ascend = subst Ascends (sym (map_append s.more ((k, row) ∷ []))) (ascends_snoc (map key_of s.more) k s.ascend (each_mapped (λ n. n < k) s.more s.below));
        each = each_snoc _ s.more (k, row) s.each (from, to, n);
        every = λ key l h m. cases (nat_lt key k)
            (λ t. let less : key < k = grind (arith, nat_tests, t) in more_found key (s.every key l h less))
            (λ f. let same : k ≡ key = grind (arith, nat_tests, f, m) in inl (any_later (λ p. p.0 == key) s.more ((k, row) ∷ []) (ap (λ b. b || false) ((Decides-eqb k key).1 same))));
        below = each_snoc (λ p. p.0 ≤ k) s.more (k, row) weak (omega arith);
      }
        where
          more_found : (key : ℕ) → IsTrue (list_any (λ p. p.0 == key) s.more) ⊎ ((shown key).row ≡ None) → IsTrue (list_any (λ p. p.0 == key) (s.more ++ (k, row) ∷ [])) ⊎ ((shown key).row ≡ None)
          more_found key (inl f) = inl (any_more (λ p. p.0 == key) s.more ((k, row) ∷ []) f)
          more_found key (inr n) = inr n

  pub goes_on : (rows : Rows) (k : ℕ) (next : Option ℕ) → IsUpTo shown low high old rows k → IsWithin (k + 1) high next → LeadsOn Sought (k + 1) high next → IsSoFar shown low high old rows next
  goes_on rows k None u w n = record {
    more = u.more;
    is = u.is;
    ascend = u.ascend;
    each = u.each;
    every = λ key l h past. cases (nat_lt k key)
        (λ t. let more : k + 1 ≤ key = grind (arith, nat_tests, t) in inr (gone key (n key more h)))
        (λ f. let upto : key ≤ k = grind (arith, nat_tests, f) in u.every key l h upto);
    below = tt;
  }
  goes_on rows k (Some m) u w n = record {
    more = u.more;
    is = u.is;
    ascend = u.ascend;
    each = u.each;
    every = λ key l h past. cases (nat_lt k key)
        (λ t. let more : k + 1 ≤ key = grind (arith, nat_tests, t) in inr (gone key (λ there. let least = n key more h there in absurd (omega (arith, least, past)))))
        (λ f. let upto : key ≤ k = grind (arith, nat_tests, f) in u.every key l h upto);
    below = each_keeps (λ p. p.0 ≤ k) (λ p. p.0 < m) (λ p l. let b = w.0 in omega (arith, l, b)) u.more u.below;
  }

each_both : {X : Type 0} (P Q : X → Type 0) (xs : List X) → Each P xs → Each Q xs → Each (λ x. P x × Q x) xs
each_both P Q [] a b = tt
each_both P Q (x ∷ xs) a b = ((a.0, b.0), each_both P Q xs a.1 b.1)

-- the same up to a lower key
pub narrowed : (shown : ℕ → Image) (low high limit : ℕ) (old rows : Rows) (k : ℕ) → k ≤ limit → limit ≤ high → IsUpTo shown low high old rows k → IsUpTo shown low limit old rows k
narrowed shown low high limit old rows k over under u = record {
  more = u.more;
  is = u.is;
  ascend = u.ascend;
  each = each_keeps _ (λ p. (low ≤ p.0) × (p.0 ≤ limit) × ((shown p.0).row ≡ Some p.1)) (λ p q. (q.0.0, (let m = q.1 in omega (arith, m, over)), q.0.2)) u.more (each_both _ _ u.more u.each u.below);
  every = λ key l h m. u.every key l (omega (arith, h, under)) m;
  below = u.below;
}

-- one key more, and the next one after it up to a limit that may be lower
pub one_more : (shown : ℕ → Image) (Sought : ℕ → Type 0) (low high limit : ℕ) (old : Rows) (gone : (key : ℕ) → (Sought key → ⊥) → (shown key).row ≡ None) (rows new : Rows) (k : ℕ)
    (next : Option ℕ) → IsWithin low high (Some k) → k ≤ limit → limit ≤ high → IsSoFar shown low high old rows (Some k) → new ≡ rows ++ rows_at k (shown k).row →
    IsWithin (k + 1) limit next → LeadsOn Sought (k + 1) limit next
    → IsSoFar shown low limit old new next
one_more shown Sought low high limit old gone rows new k next here over under s e within n = goes_on shown Sought low limit old gone new k next
    (narrowed shown low high limit old new k over under (row_added shown Sought low high old gone rows new k here.0 here.1 s e)) within n

-- where so many rows are up to a limit, or it is the highest, the same is so of a lower one
pub still_enough : (n lower limit high : ℕ) (rows more new : Rows) → new ≡ rows ++ more → (lower ≡ limit) ⊎ (n ≤ count_upto lower new) →
    (limit ≡ high) ⊎ (n ≤ count_upto limit rows) → (lower ≡ high) ⊎ (n ≤ count_upto lower new)
still_enough n lower limit high rows more new is (inl e) (inl f) = inl (e ∙ f)
still_enough n lower limit high rows more new is (inl e) (inr many) =
    let sums : count_upto lower new ≡ count_upto lower rows + count_upto lower more = ap (sum_by (one_upto lower)) is ∙ sum_by-append (one_upto lower) rows more in
    let same = subst (λ k. n ≤ count_upto k rows) (sym e) many in
    inr (omega (arith, sums, same))
still_enough n lower limit high rows more new is (inr many) other = inr many

-- ---- how far the next key is from the end

abbrev pub room : ℕ → Option ℕ → ℕ
room high None = 0
room high (Some k) = suc high - k

pub still_within : (low k high : ℕ) (next : Option ℕ) → IsWithin low high (Some k) → IsWithin (k + 1) high next → IsWithin low high next
still_within low k high None here w = tt
still_within low k high (Some m) here w = let a = here.0 in let c = w.0 in (omega (arith, a, c), w.1)

-- ---- where the search ends

pub ends : (shown : ℕ → Image) (n low limit high : ℕ) (old rows : Rows) → IsSoFar shown low limit old rows None → limit ≤ high → (limit ≡ high) ⊎ (n ≤ count_upto limit rows) →
    Appends shown n low high old rows limit
ends shown n low limit high old rows s under enough = record {
  more = s.more;
  is = s.is;
  within = under;
  rows = record { ascend = s.ascend; each = s.each; every = λ key l h. s.every key l h tt };
  enough = enough;
}

-- a wider range, of which no other key is shown
pub widened : (shown : ℕ → Image) (n low own high : ℕ) (old new : Rows) (upto : ℕ) → low ≤ own → ((k : ℕ) → low ≤ k → k < own → (shown k).row ≡ None) →
    Appends shown n own high old new upto → Appends shown n low high old new upto
widened shown n low own high old new upto less none a = record {
  more = a.more;
  is = a.is;
  within = a.within;
  rows = record {
    ascend = a.rows.ascend;
    each = each_keeps _ _ (λ p q. (let l = q.0 in omega (arith, l, less), q.1, q.2)) a.more a.rows.each;
    every = λ key l h. cases (nat_lt key own) (λ t. let under : key < own = grind (arith, nat_tests, t) in
        inr (none key l under)) (λ f. let over : own ≤ key = grind (arith, nat_tests, f) in a.rows.every key over h);
  };
  enough = a.enough;
}
