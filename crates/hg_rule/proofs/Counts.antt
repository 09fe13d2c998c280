-- How many parts of a key there are in lists and views, and what the shares add up to.
use Rattle.std.proofs.Common.{◌≡◌, ◌≢◌, ℕ, zero, suc, ◌+◌, ◌<◌, ◌≤◌, Bool, true, false, eqb, ltb, List, [], ◌∷◌, ◌++◌, set, refl, sym, ap, ◌∙◌, subst, arith, le_refl, eq-eqb, ne_eqb, true≢false}
use mathlib.Core.Option.{some, some-injective, some-ne-none}
use native.Mathlib.Decide.{ℕ_discrete}
use lib.ListN.{get_elem?}
use Rattle.hg_base.specs.Lists.{Each}
use Rattle.hg_core.specs.State.{CoreState}
use Rattle.hg_rule.specs.declared.view.Part.{Part}
use Rattle.hg_rule.specs.declared.view.Part.TheVariants.{OfSession, OfBucket, OfCommit, OfPass, Away, Lent}
use Rattle.hg_rule.specs.declared.view.View.{View}
use Rattle.hg_rule.specs.declared.view.Sizes.{Sizes}
use Rattle.hg_rule.specs.Keys.{Key, session_key, bucket_key, commit_key, pass_key, home_key, key_of, both, same_key, has, one, count, tally, share_of, shares, all_shares, expected}
use Rattle.hg_rule.specs.declared.view.SessionPart.{SessionPart}
use Rattle.hg_rule.specs.Facts.{IsLeft, Shown, new_part}

-- ---- keys

pub same_number : (i j : ℕ) → eqb i j ≡ true → i ≡ j
same_number i j e = go (ℕ_discrete i j)
  where
    go : Dec (i ≡ j) → i ≡ j
    go (yes h) = h
    go (no n) = absurd (true≢false (sym e ∙ ne_eqb i j n))

pub key_self : (k : Key) → same_key k k ≡ true
key_self (session_key j) = eq-eqb j j refl
key_self (bucket_key j) = eq-eqb j j refl
key_self commit_key = refl
key_self (pass_key j) = eq-eqb j j refl
key_self (home_key j) = eq-eqb j j refl

pub new_key : (k : Key) → key_of (new_part k) ≡ k
new_key (session_key j) = refl
new_key (bucket_key j) = refl
new_key commit_key = refl
new_key (pass_key j) = refl
new_key (home_key j) = refl

-- a part has its own key
pub has_self : (p : Part) → has (key_of p) p ≡ true
has_self (OfSession j s) = eq-eqb j j refl
has_self (OfBucket b c) = eq-eqb b b refl
has_self (OfCommit h) = refl
has_self (OfPass p r) = eq-eqb p p refl
has_self (Away j s n) = eq-eqb j j refl
has_self (Lent j s) = eq-eqb j j refl

pub has_new : (k : Key) → has k (new_part k) ≡ true
has_new k = ap (λ h. has h (new_part k)) (sym (new_key k)) ∙ has_self (new_part k)

-- ---- counts

one_small : (b : Bool) → one b ≤ 1
one_small true = le_refl _
one_small false = omega arith

pub expected_small : (z : Sizes) (used : ℕ → Bool) (k : Key) → expected z used k ≤ 1
expected_small z used (session_key j) = one_small (both (ltb 0 j) (ltb j (suc z.sessions)))
expected_small z used (bucket_key j) = one_small (ltb j z.buckets)
expected_small z used commit_key = le_refl _
expected_small z used (pass_key j) = one_small (used j)
expected_small z used (home_key j) = one_small (both (ltb 0 j) (ltb j (suc z.sessions)))

pub one_true : (b : Bool) → 0 < one b → b ≡ true
one_true true l = refl
one_true false l = absurd (omega arith)

pub count_append : (k : Key) (ps qs : List Part) → count k (ps ++ qs) ≡ count k ps + count k qs
count_append k [] qs = omega arith
count_append k (p ∷ ps) qs = let a : ℕ = one (has k p) in let b : ℕ = count k (ps ++ qs) in let c : ℕ = count k ps in let d : ℕ = count k qs in let e : b ≡ c + d = count_append k ps qs in omega arith

pub count_self : (p : Part) (ps : List Part) → 0 < count (key_of p) (p ∷ ps)
count_self p ps = let x : ℕ = one (has (key_of p) p) in let y : ℕ = count (key_of p) ps in let e : x ≡ 1 = ap one (has_self p) in omega arith

-- f of each view, added up
module _ (f : View → ℕ) where
  pub sum : List View → ℕ
  sum [] = 0
  sum (v ∷ vs) = f v + sum vs

  pub sum_set : (vs : List View) (i : ℕ) (v w : View) → get_elem? vs i ≡ some v → sum (set vs i w) + f v ≡ sum vs + f w
  unfolding sum
  sum_set [] i v w e = absurd (some-ne-none v (sym e))
  sum_set (x ∷ vs) zero v w e = let a : ℕ = f w in let b : ℕ = sum vs in let c : ℕ = f v in let d : ℕ = f x in let g : d ≡ c = ap f (some-injective x v e) in omega arith
  sum_set (x ∷ vs) (suc i) v w e = let a : ℕ = sum (set vs i w) in let b : ℕ = f v in let c : ℕ = sum vs in let d : ℕ = f w in let y : ℕ = f x in
      let h : a + b ≡ c + d = sum_set vs i v w e in omega arith

  pub sum_snoc : (vs : List View) (w : View) → sum (vs ++ w ∷ []) ≡ sum vs + f w
  unfolding sum
  sum_snoc [] w = omega arith
  sum_snoc (x ∷ vs) w = let a : ℕ = sum (vs ++ w ∷ []) in let b : ℕ = sum vs in let c : ℕ = f w in let d : ℕ = f x in let h : a ≡ b + c = sum_snoc vs w in omega arith

  pub sum_one : (vs : List View) (i : ℕ) (v : View) → get_elem? vs i ≡ some v → f v ≤ sum vs
  unfolding sum
  sum_one [] i v e = absurd (some-ne-none v (sym e))
  sum_one (x ∷ vs) zero v e = let b : ℕ = sum vs in let c : ℕ = f v in let d : ℕ = f x in let g : d ≡ c = ap f (some-injective x v e) in omega arith
  sum_one (x ∷ vs) (suc i) v e = let b : ℕ = sum vs in let c : ℕ = f v in let d : ℕ = f x in let h : c ≤ b = sum_one vs i v e in omega arith

  pub sum_two : (vs : List View) (i j : ℕ) (v w : View) → i ≢ j → get_elem? vs i ≡ some v → get_elem? vs j ≡ some w → f v + f w ≤ sum vs
  unfolding sum
  sum_two [] i j v w n e g = absurd (some-ne-none v (sym e))
  sum_two (x ∷ vs) zero zero v w n e g = absurd (n refl)
  sum_two (x ∷ vs) zero (suc j) v w n e g = let b : ℕ = sum vs in let c : ℕ = f v in let d : ℕ = f x in let a : ℕ = f w in let h : d ≡ c = ap f (some-injective x v e) in
      let l : a ≤ b = sum_one vs j w g in omega arith
  sum_two (x ∷ vs) (suc i) zero v w n e g = let b : ℕ = sum vs in let c : ℕ = f v in let d : ℕ = f x in let a : ℕ = f w in let h : d ≡ a = ap f (some-injective x w g) in
      let l : c ≤ b = sum_one vs i v e in omega arith
  sum_two (x ∷ vs) (suc i) (suc j) v w n e g = let b : ℕ = sum vs in let c : ℕ = f v in let d : ℕ = f x in let a : ℕ = f w in
      let l : c + a ≤ b = sum_two vs i j v w (λ t. n (ap suc t)) e g in omega arith

  -- where every other is 0
  pub sum_alone : (vs : List View) (i : ℕ) (v : View) → get_elem? vs i ≡ some v → ((j : ℕ) (w : View) → j ≢ i → get_elem? vs j ≡ some w → f w ≡ 0) → sum vs ≡ f v
  unfolding sum
  sum_alone [] i v e none = absurd (some-ne-none v (sym e))
  sum_alone (x ∷ vs) zero v e none = let b : ℕ = sum vs in let c : ℕ = f v in let d : ℕ = f x in let g : d ≡ c = ap f (some-injective x v e) in
      let h : b ≡ 0 = all_none vs (λ j w at. none (suc j) w (λ t. absurd (omega arith)) at) in omega arith
    where
      all_none : (vs : List View) → ((j : ℕ) (w : View) → get_elem? vs j ≡ some w → f w ≡ 0) → sum vs ≡ 0
      all_none [] h = refl
      all_none (y ∷ vs) h = let a : ℕ = f y in let b : ℕ = sum vs in let l : a ≡ 0 = h 0 y refl in let r : b ≡ 0 = all_none vs (λ j w at. h (suc j) w at) in omega arith
  sum_alone (x ∷ vs) (suc i) v e none = let b : ℕ = sum vs in let c : ℕ = f v in let d : ℕ = f x in let z : d ≡ 0 = none 0 x (λ t. absurd (omega arith)) refl in
      let h : b ≡ c = sum_alone vs i v e (λ j w n at. none (suc j) w (λ t. n (omega arith)) at) in omega arith

-- tallies and all shares are such sums
pub tally_is : (k : Key) (vs : List View) → tally k vs ≡ sum (λ v. count k v.parts) vs
unfolding sum
tally_is k [] = refl
tally_is k (v ∷ vs) = ap (λ n. count k v.parts + n) (tally_is k vs)

pub all_shares_is : (vs : List View) → all_shares vs ≡ sum (λ v. shares v.parts) vs
unfolding sum
all_shares_is [] = refl
all_shares_is (v ∷ vs) = ap (λ n. shares v.parts + n) (all_shares_is vs)

pub shares_append : (ps qs : List Part) → shares (ps ++ qs) ≡ shares ps + shares qs
shares_append [] qs = omega arith
shares_append (p ∷ ps) qs = let a : ℕ = share_of p in let b : ℕ = shares (ps ++ qs) in let c : ℕ = shares ps in let d : ℕ = shares qs in let e : b ≡ c + d = shares_append ps qs in omega arith

lose_none : (n : ℕ) → 0 + n ≡ 0 → n ≡ 0
lose_none n e = omega arith

add_none : (m n : ℕ) → m ≡ 0 → n ≡ 0 → m + n ≡ 0
add_none m n d e = omega arith

-- parts with no share have no pass
pub no_share : (s : CoreState) (p : ℕ) (ps : List Part) → Each (Shown s) ps → shares ps ≡ 0 → count (pass_key p) ps ≡ 0
no_share s p [] h none = refl
no_share s p (OfSession j t ∷ ps) h none = add_none _ _ refl (no_share s p ps h.1 (lose_none _ none))
no_share s p (OfBucket b c ∷ ps) h none = add_none _ _ refl (no_share s p ps h.1 (lose_none _ none))
no_share s p (OfCommit c ∷ ps) h none = add_none _ _ refl (no_share s p ps h.1 (lose_none _ none))
no_share s p (Away j t n ∷ ps) h none = add_none _ _ refl (no_share s p ps h.1 (lose_none _ none))
no_share s p (Lent j t ∷ ps) h none = add_none _ _ refl (no_share s p ps h.1 (lose_none _ none))
no_share s p (OfPass q r ∷ ps) h none = absurd (let a : ℕ = r.share in let b : ℕ = shares ps in let c : a + b ≡ 0 = none in let d : 0 < a = h.0.1.1 in omega arith)

-- ---- what stays

-- what of two states differs is among these parts alone
abbrev pub Only : CoreState → CoreState → List Part → Type 0
Only c d qs = (p : Part) → count (key_of p) qs ≡ 0 → Shown c p → Shown d p

pub stay : (c d : CoreState) (qs ps : List Part) → Only c d qs → ((k : Key) → count k qs + count k ps ≤ 1) → Each (Shown c) ps → Each (Shown d) ps
stay c d qs [] only apart h = tt
stay c d qs (p ∷ ps) only apart h = (
  only p (let k = key_of p in let a : ℕ = count k qs in let b : ℕ = count k (p ∷ ps) in let x : 0 < b = count_self p ps in let l : a + b ≤ 1 = apart k in omega arith) h.0,
  stay c d qs ps only (λ k. let a : ℕ = count k qs in let b : ℕ = count k ps in let x : ℕ = one (has k p) in let l : a + (x + b) ≤ 1 = apart k in omega arith) h.1,
)

-- another number, where the count of one part of a key is 0
pub another : (i j : ℕ) → one (eqb i j) + 0 ≡ 0 → j ≡ i → ⊥
another i j z e = let x : ℕ = one (eqb i j) in let t : x ≡ 1 = ap one (eq-eqb i j (sym e)) in let z' : x + 0 ≡ 0 = z in omega arith

-- a part that is away is so still where its session's phase and log stay
pub away_same : (c d : CoreState) (k : ℕ) (part : SessionPart) (n : ℕ) → d.phase k ≡ c.phase k → d.log k ≡ c.log k → c.mark ≤ d.mark → Shown c (Away k part n) → Shown d (Away k part n)
away_same c d k part n phase log more s = (phase ∙ s.0, (omega (arith, more, s.1.0), subst (IsLeft n part.log) (sym log) s.1.1))
