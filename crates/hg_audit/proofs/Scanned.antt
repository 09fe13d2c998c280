-- The rows of a scan, one after the other.
use Rattle.std.proofs.Common.{◌≡◌, ℕ, ◌+◌, ◌-◌, ◌<◌, ◌≤◌, ◌⊎◌, inl, inr, List, [], ◌∷◌, ◌++◌, map, Bool, true, false, Option, Some, None, refl, sym, ap, ◌∙◌, subst, arith}
use Rattle.std.specs.Prelude.{◌==◌, ◌||◌, IsTrue, nat_lt, unwrap_or}
use Rattle.std.specs.List.{list_any}
use Rattle.std.specs.Option.{MatchOption, SomeIff}
use Rattle.std.proofs.lemmas.Bool.{ltb-true, ltb-false}
use Rattle.std.proofs.lemmas.Bool.Decides.{Decides-eqb}
use Rattle.hg_base.specs.declared.image.Image.{Image}
use Rattle.hg_base.specs.declared.value.Value.{Value}
use Rattle.hg_base.specs.Lists.{Each, Ascends}
use Rattle.hg_base.specs.Replies.{AreRows}
use Rattle.hg_base.proofs.ListFacts.{cases, false_true, each_snoc}
use Rattle.hg_audit.specs.Seen.{NoneSeen}
use Rattle.hg_known.proofs.Pairs.{any_append}

abbrev pub Rows : Type 0
Rows = List (ℕ × List Value)

abbrev pub keys : Rows → List ℕ
keys rows = map (λ (p : ℕ × List Value). p.0) rows

-- all keys are below a number
abbrev pub Below : ℕ → Rows → Type 0
Below k rows = Each (λ p. p.0 < k) rows

-- ---- ascending keys

pub ascends_cons : (a : ℕ) (rows : Rows) → Ascends (a ∷ keys rows) → Each (λ p. a < p.0) rows × Ascends (keys rows)
ascends_cons a [] h = (tt, tt)
ascends_cons a (p ∷ ps) h =
    let more = ascends_cons p.0 ps h.1 in
    ((h.0, over a p.0 h.0 ps more.0), h.1)
  where
    over : (a b : ℕ) → a < b → (rows : Rows) → Each (λ p. b < p.0) rows → Each (λ p. a < p.0) rows
    over a b k [] h = tt
    over a b k (p ∷ ps) h = let l : b < p.0 = h.0 in (omega (arith, k, l), over a b k ps h.1)

pub ascends_split : (rows rest : Rows) (q : ℕ × List Value) → Ascends (keys (rows ++ q ∷ rest)) → Below q.0 rows × Each (λ p. q.0 < p.0) rest
ascends_split [] rest q h = (tt, (ascends_cons q.0 rest h).0)
ascends_split (p ∷ ps) rest q h =
    let here = ascends_cons p.0 (ps ++ q ∷ rest) h in
    let more = ascends_split ps rest q here.1 in
    ((first ps here.0, more.0), more.1)
  where
    first : (ps : Rows) → Each (λ r. p.0 < r.0) (ps ++ q ∷ rest) → p.0 < q.0
    first [] k = k.0
    first (r ∷ rs) k = first rs k.1

pub ascends_push : (rows : Rows) (q : ℕ × List Value) → Ascends (keys rows) → Below q.0 rows → Ascends (keys (rows ++ q ∷ []))
ascends_push [] q h k = tt
ascends_push (p ∷ []) q h k = (k.0, tt)
ascends_push (p ∷ r ∷ rs) q h k = (h.0, ascends_push (r ∷ rs) q h.1 k.1)

pub each_right : {X : Type 0} (P : X → Type 0) (xs ys : List X) → Each P (xs ++ ys) → Each P ys
each_right P [] ys h = h
each_right P (x ∷ xs) ys h = each_right P xs ys h.1

pub none_here : (k : ℕ) (rows : Rows) → Each (λ p. p.0 ≡ k → ⊥) rows → list_any (λ (p : ℕ × List Value). p.0 == k) rows ≡ true → ⊥
none_here k [] h e = false_true e
none_here k (p ∷ ps) h e = cases (p.0 == k) (λ same. h.0 ((Decides-eqb p.0 k).0 same)) (λ other. none_here k ps h.1 (sym (ap (λ b. b || list_any (λ (p : ℕ × List Value). p.0 == k) ps) other) ∙ e))

pub not_below : (k first : ℕ) (rows : Rows) → first ≤ k → Below first rows → Each (λ p. p.0 ≡ k → ⊥) rows
not_below k first [] low h = tt
not_below k first (p ∷ ps) low h = let l : p.0 < first = h.0 in (λ e. omega (arith, e, low, l), not_below k first ps low h.1)

pub not_above : (k key : ℕ) (rows : Rows) → k < key → Each (λ p. key < p.0) rows → Each (λ p. p.0 ≡ k → ⊥) rows
not_above k key [] less h = tt
not_above k key (p ∷ ps) less h = let l : key < p.0 = h.0 in (λ e. omega (arith, e, less, l), not_above k key ps less h.1)

pub each_both : {X : Type 0} (P : X → Type 0) (xs ys : List X) → Each P xs → Each P ys → Each P (xs ++ ys)
each_both P [] ys h k = k
each_both P (x ∷ xs) ys h k = (h.0, each_both P xs ys h.1 k)

-- ---- the rows so far

-- the least number from `low` on that is over the keys so far, or none if no number of 64 bits is
abbrev pub IsNext : ℕ → Rows → Option ℕ → Type 0
IsNext low rows from = MatchOption from ((k : ℕ) → low ≤ k → Below k rows → 18446744073709551616 ≤ k) (λ first. (low ≤ first) × Below first rows × ((k : ℕ) → low ≤ k → Below k rows → first ≤ k))

-- whether a key was passed
abbrev pub IsPassed : Option ℕ → ℕ → Type 0
IsPassed from k = MatchOption from (Unit {0}) (λ first. k < first)

module _ (look : ℕ → Image) (low high : ℕ) where
  abbrev pub IsRow : ℕ × List Value → Type 0
  IsRow p = (low ≤ p.0) × (p.0 ≤ high) × ((look p.0).row ≡ Some p.1)

  abbrev pub IsTold : Rows → ℕ → Type 0
  IsTold rows k = IsTrue (list_any (λ p. p.0 == k) rows) ⊎ ((look k).row ≡ None)

  pub record Scanning (rows : Rows) (from : Option ℕ) : Type 0 where
    pub ascend : Ascends (keys rows)
    pub each : Each IsRow rows
    pub next : IsNext low rows from
    pub told : (k : ℕ) → low ≤ k → k ≤ high → IsPassed from k → IsTold rows k

  pub scan_first : (next : Option ℕ) → low ≡ unwrap_or next 18446744073709551616 → high < 18446744073709551616 → Scanning [] next
  scan_first None e small = record { ascend = tt; each = tt; next = λ k j _. omega (arith, e, j); told = λ k j l m. absurd (omega (arith, e, j, l, small)) }
  scan_first (Some n) e small = record { ascend = tt; each = tt; next = (omega (arith, e), tt, λ k j _. omega (arith, e, j)); told = λ k j l m. absurd (omega (arith, e, j, m)) }

  pub told_more : (rows : Rows) (q : ℕ × List Value) (k : ℕ) → IsTold rows k → IsTold (rows ++ q ∷ []) k
  told_more rows q k (inl e) = inl (any_append (λ (p : ℕ × List Value). p.0 == k) rows (q ∷ []) ∙ ap (λ b. b || list_any (λ (p : ℕ × List Value). p.0 == k) (q ∷ [])) e)
  told_more rows q k (inr e) = inr e

  pub told_here : (rows : Rows) (q : ℕ × List Value) → IsTold (rows ++ q ∷ []) q.0
  told_here rows q = inl (any_append (λ (p : ℕ × List Value). p.0 == q.0) rows (q ∷ []) ∙ or_last (list_any (λ (p : ℕ × List Value). p.0 == q.0) rows) (q.0 == q.0) ((Decides-eqb q.0 q.0).1 refl))
    where
      or_last : (a b : Bool) → b ≡ true → (a || (b || false)) ≡ true
      or_last true b e = refl
      or_last false true e = refl
      or_last false false e = e

  pub below_all : (rows : Rows) (first key : ℕ) → first ≤ key → Below first rows → Below key rows
  below_all [] first key k h = tt
  below_all (p ∷ ps) first key k h = let l : p.0 < first = h.0 in (omega (arith, k, l), below_all ps first key k h.1)

  pub scan_more : (rows : Rows) (first key : ℕ) (row : List Value) (from : Option ℕ) → Scanning rows (Some first) → first ≤ key → key ≤ high → (look key).row ≡ Some row →
      ((k : ℕ) → first ≤ k → k < key → (look k).row ≡ None) → SomeIff from (key + 1 < 18446744073709551616) (key + 1) → high < 18446744073709551616 → Scanning (rows ++ (key, row) ∷ []) from
  scan_more rows first key row from h over within seen gap next small = record {
    ascend = ascends_push rows (key, row) h.ascend below;
    each = each_snoc IsRow rows (key, row) h.each (low_key, within, seen);
    next = is_next from next;
    told = λ k j l passed. told k j l (upto from next k l passed);
  }
    where
      below : Below key rows
      below = below_all rows first key over h.next.1

      low_key : low ≤ key
      low_key = let a : low ≤ first = h.next.0 in omega (arith, a, over)

      last_of : (k : ℕ) → Below k (rows ++ (key, row) ∷ []) → key < k
      last_of k b = (each_right (λ (p : ℕ × List Value). p.0 < k) rows ((key, row) ∷ []) b).0

      is_next : (from : Option ℕ) → SomeIff from (key + 1 < 18446744073709551616) (key + 1) → IsNext low (rows ++ (key, row) ∷ []) from
      is_next None none = λ k j b. let l = last_of k b in cases (nat_lt k 18446744073709551616)
          (λ e. absurd (let m : k < 18446744073709551616 = ltb-true k 18446744073709551616 e in none (omega (arith, l, m)))) (λ e. ltb-false k 18446744073709551616 e)
      is_next (Some n) (fits, is) = (
        omega (arith, is, low_key),
        each_snoc (λ p. p.0 < n) rows (key, row) (below_all rows key n (omega (arith, is)) below) (omega (arith, is)),
        λ k j b. let l = last_of k b in omega (arith, is, l),
      )

      upto : (from : Option ℕ) → SomeIff from (key + 1 < 18446744073709551616) (key + 1) → (k : ℕ) → k ≤ high → IsPassed from k → (k ≤ key) ⊎ (18446744073709551616 ≤ k)
      upto None none k l passed = cases (nat_lt key k)
          (λ e. inr (let m : key < k = ltb-true key k e in cases (nat_lt k 18446744073709551616)
          (λ f. absurd (let n : k < 18446744073709551616 = ltb-true k 18446744073709551616 f in none (omega (arith, m, n)))) (λ f. ltb-false k 18446744073709551616 f)))
          (λ e. inl (ltb-false key k e))
      upto (Some n) (fits, is) k l passed = inl (omega (arith, is, passed))

      told : (k : ℕ) → low ≤ k → k ≤ high → (k ≤ key) ⊎ (18446744073709551616 ≤ k) → IsTold (rows ++ (key, row) ∷ []) k
      told k j l (inr big) = absurd (omega (arith, l, big, small))
      told k j l (inl m) = cases (nat_lt k first)
          (λ e. told_more rows (key, row) k (h.told k j l (ltb-true k first e)))
          (λ e. cases (nat_lt k key)
          (λ f. inr (gap k (ltb-false k first e) (ltb-true k key f)))
          (λ f. let o : key ≤ k = ltb-false k key f in let same : key ≡ k = omega (arith, o, m) in subst (IsTold (rows ++ (key, row) ∷ [])) same (told_here rows (key, row))))

  -- ---- the end

  pub scan_end : (rows : Rows) (first : ℕ) → Scanning rows (Some first) → NoneSeen look first high → AreRows look low high rows
  scan_end rows first h none = record {
    ascend = h.ascend;
    each = h.each;
    every = λ k j l. cases (nat_lt k first) (λ e. h.told k j l (ltb-true k first e)) (λ e. inr (none k (ltb-false k first e) l));
  }

  pub scan_full : (rows : Rows) → Scanning rows None → AreRows look low high rows
  scan_full rows h = record { ascend = h.ascend; each = h.each; every = λ k j l. h.told k j l tt }

  pub end_none : (rows : Rows) (first : ℕ) → Scanning rows (Some first) → AreRows look low high rows → NoneSeen look first high
  end_none rows first h are k j l = go (are.every k low_k l)
    where
      low_k : low ≤ k
      low_k = let a : low ≤ first = h.next.0 in omega (arith, a, j)

      go : IsTold rows k → (look k).row ≡ None
      go (inl e) = absurd (none_here k rows (not_below k first rows j h.next.1) e)
      go (inr e) = e

  -- ---- a row that is not the next

  pub its_row : (rows rest : Rows) (q : ℕ × List Value) → AreRows look low high (rows ++ q ∷ rest) → IsRow q
  its_row rows rest q are = (each_right IsRow rows (q ∷ rest) are.each).0

  pub not_low : (rows rest : Rows) (q : ℕ × List Value) (first : ℕ) → Scanning rows (Some first) → AreRows look low high (rows ++ q ∷ rest) → first ≤ q.0
  not_low rows rest q first h are = h.next.2 q.0 (its_row rows rest q are).0 (ascends_split rows rest q are.ascend).0

  pub no_next : (rows rest : Rows) (q : ℕ × List Value) → high < 18446744073709551616 → Scanning rows None → AreRows look low high (rows ++ q ∷ rest) → ⊥
  no_next rows rest q small h are =
      let big : 18446744073709551616 ≤ q.0 = h.next q.0 (its_row rows rest q are).0 (ascends_split rows rest q are.ascend).0 in
      let top : q.0 ≤ high = (its_row rows rest q are).1 in
      omega (arith, big, top, small)

  pub gap_none : (rows rest : Rows) (q : ℕ × List Value) (first : ℕ) → Scanning rows (Some first) → AreRows look low high (rows ++ q ∷ rest) → first < q.0 → NoneSeen look first (q.0 - 1)
  gap_none rows rest q first h are less k j l = go (are.every k low_k high_k)
    where
      below : k < q.0
      below = omega (arith, l, less)

      low_k : low ≤ k
      low_k = let a : low ≤ first = h.next.0 in omega (arith, a, j)

      high_k : k ≤ high
      high_k = let top : q.0 ≤ high = (its_row rows rest q are).1 in omega (arith, below, top)

      go : IsTold (rows ++ q ∷ rest) k → (look k).row ≡ None
      go (inl e) = absurd (none_here k (rows ++ q ∷ rest) (each_both (λ p. p.0 ≡ k → ⊥) rows (q ∷ rest) (not_below k first rows j h.next.1)
          (λ e. omega (arith, e, below), not_above k q.0 rest below (ascends_split rows rest q are.ascend).1)) e)
      go (inr e) = e
