-- Each range of keys has its rows in any content.
use Rattle.std.proofs.Common.{◌≡◌, ℕ, zero, suc, ◌+◌, ◌-◌, ◌<◌, ◌≤◌, inl, inr, ◌⊎◌, ⊎_elim, Bool, true, false, List, [], ◌∷◌, map, ◌==◌, Option, Some, None}
use Rattle.std.proofs.Common.{refl, subst, arith}
use Rattle.std.specs.Prelude.{IsTrue, ◌||◌}
use Rattle.std.specs.List.{list_any}
use Rattle.std.proofs.lemmas.Bool.Decides.{nat_tests}
use native.Mathlib.Decide.{dec_le}
use Rattle.hg_base.specs.declared.image.Image.{Image}
use Rattle.hg_base.specs.declared.value.Value.{Value}
use Rattle.hg_base.specs.Lists.{Each, Ascends}
use Rattle.hg_base.specs.Replies.{AreRows}

abbrev consed : ℕ → Option (List Value) → List (ℕ × List Value) → List (ℕ × List Value)
consed key None rows = rows
consed key (Some row) rows = (key, row) ∷ rows

-- the rows of so many keys, from one on
abbrev scanned : (ℕ → Image) → ℕ → ℕ → List (ℕ × List Value)
scanned f low zero = []
scanned f low (suc n) = consed low (f low).row (scanned f (suc low) n)

record Spans (f : ℕ → Image) (low n : ℕ) (rows : List (ℕ × List Value)) : Type 0 where
  pub ascend : Ascends (map (λ p. p.0) rows)
  pub each : Each (λ p. (low ≤ p.0) × (p.0 < low + n) × ((f p.0).row ≡ Some p.1)) rows
  pub every : (key : ℕ) → low ≤ key → key < low + n → IsTrue (list_any (λ p. p.0 == key) rows) ⊎ ((f key).row ≡ None)

lifted : (f : ℕ → Image) (low n : ℕ) (rows : List (ℕ × List Value)) → Each (λ p. (suc low ≤ p.0) × (p.0 < suc low + n) × ((f p.0).row ≡ Some p.1)) rows →
    Each (λ p. (low ≤ p.0) × (p.0 < low + suc n) × ((f p.0).row ≡ Some p.1)) rows
lifted f low n [] h = tt
lifted f low n (p ∷ rows) h = let a = h.0.0 in let b = h.0.1 in ((omega arith, omega arith, h.0.2), lifted f low n rows h.1)

ascending : (f : ℕ → Image) (low n : ℕ) (rows : List (ℕ × List Value)) → Each (λ p. (suc low ≤ p.0) × (p.0 < suc low + n) × ((f p.0).row ≡ Some p.1)) rows →
    Ascends (map (λ p. p.0) rows) → Ascends (low ∷ map (λ p. p.0) rows)
ascending f low n [] h a = tt
ascending f low n (p ∷ rows) h a = let l = h.0.0 in (omega arith, a)

scan_spans : (f : ℕ → Image) (low n : ℕ) → Spans f low n (scanned f low n)
scan_spans f low zero = record { ascend = tt; each = tt; every = λ key a b. absurd (omega arith) }
scan_spans f low (suc n) = go (f low).row refl (scanned f (suc low) n) (scan_spans f (suc low) n)
  where
    go : (row : Option (List Value)) → (f low).row ≡ row → (rows : List (ℕ × List Value)) → Spans f (suc low) n rows → Spans f low (suc n) (consed low row rows)
    go None is rows h = record {
      ascend = h.ascend;
      each = lifted f low n rows h.each;
      every = λ key a b. ⊎_elim (λ (e : low ≡ key). inr (subst (λ k. (f k).row ≡ None) e is)) (λ (l : suc low ≤ key). h.every key l (omega arith)) (place key a);
    }
      where
        place : (key : ℕ) → low ≤ key → (low ≡ key) ⊎ (suc low ≤ key)
        place key a = apart (dec_le (suc low) key)
          where
            apart : Dec (suc low ≤ key) → (low ≡ key) ⊎ (suc low ≤ key)
            apart (yes l) = inr l
            apart (no l) = inl (omega arith)
    go (Some row) is rows h = record {
      ascend = ascending f low n rows h.each h.ascend;
      each = ((omega arith, omega arith, is), lifted f low n rows h.each);
      every = λ key a b. split key a b (low == key) refl;
    }
      where
        split : (key : ℕ) → low ≤ key → key < low + suc n → (b : Bool) → (low == key) ≡ b → IsTrue (b || list_any (λ p. p.0 == key) rows) ⊎ ((f key).row ≡ None)
        split key a l true e = inl refl
        split key a l false e = let n' : low ≡ key → ⊥ = grind (arith, nat_tests) in h.every key (go' (dec_le (suc low) key) n') (omega arith)
          where
            go' : Dec (suc low ≤ key) → (low ≡ key → ⊥) → suc low ≤ key
            go' (yes l) n = l
            go' (no l) n = absurd (n (omega arith))

pub some_rows : (f : ℕ → Image) (low high : ℕ) → (rows : List (ℕ × List Value)) × AreRows f low high rows
some_rows f low high = go (dec_le low high)
  where
    within : (n : ℕ) → low + n ≡ suc high → (rows : List (ℕ × List Value)) → Each (λ p. (low ≤ p.0) × (p.0 < low + n) × ((f p.0).row ≡ Some p.1)) rows →
        Each (λ p. (low ≤ p.0) × (p.0 ≤ high) × ((f p.0).row ≡ Some p.1)) rows
    within n e [] h = tt
    within n e (p ∷ rows) h = let b = h.0.1 in ((h.0.0, omega arith, h.0.2), within n e rows h.1)

    go : Dec (low ≤ high) → (rows : List (ℕ × List Value)) × AreRows f low high rows
    go (no l) = ([], record { ascend = tt; each = tt; every = λ key a b. absurd (l (omega arith)) })
    go (yes l) =
        let n : ℕ = suc high - low in
        let e : low + n ≡ suc high = omega arith in
        let h = scan_spans f low n in
        (scanned f low n, record { ascend = h.ascend; each = within n e (scanned f low n) h.each; every = λ key a b. h.every key a (omega arith) })
