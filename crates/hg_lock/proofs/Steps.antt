-- Each step of a lock keeps the rule.
use Rattle.std.proofs.Common.{◌≡◌, ◌≢◌, ℕ, zero, suc, ◌<◌, List, [], ◌∷◌, ◌++◌, length, set, refl, sym, ap, ◌∙◌, ⊎_elim, arith, subst, length-set, Option, Some}
use Rattle.std.specs.Prelude.{slice_index}
use mathlib.Core.Option.{some, none, some-ne-none}
use lib.ListN.{get_elem?}
use Rattle.atomic_table.specs.Table.{State, Me, Act, keeps, takes, gives, Valid, carried_after, homes_after, stepped, Allows, Arrives}
use Rattle.atomic_table.proofs.Lists.{at_set, set_here, set_else}
use Rattle.hg_lock.specs.declared.guard.Seen.{Seen}
use Rattle.hg_lock.specs.Guarded.{Guarded, HasValue, line_of}

-- a word at a place is a place
pub below_of : {A : Type 0} (l : List A) (k : ℕ) (a : A) → get_elem? l k ≡ some a → k < length l
below_of [] k a e = absurd (some-ne-none a (sym e))
below_of (x ∷ xs) zero a e = omega arith
below_of (x ∷ xs) (suc k) a e = let s = below_of xs k a e in omega arith

-- and a place has its word
word_at : (l : List ℕ) (k n : ℕ) → k < length l → n ≡ slice_index l k → get_elem? l k ≡ some n
word_at [] k n below e = absurd (omega arith)
word_at (x ∷ xs) zero n below e = ap some (sym e)
word_at (x ∷ xs) (suc k) n below e = word_at xs k n (omega arith) e

-- a line is of one lock
one_lock : (k i : ℕ) → line_of k ≡ line_of i → k ≡ i
one_lock k i e = omega arith

module _ {X V : Type 0} (fits : ℕ → X → Type 0) where
  -- a free lock becomes held, and its slot goes out
  seized : (s : State (Option X) V) (views : List V) (i n : ℕ) → Guarded fits s → get_elem? s.words (line_of i) ≡ some 0
      → Guarded fits record { words = set s.words (line_of i) (suc n); homes = set s.homes (line_of i) none; views = views }
  seized s views i n g at = record {
    paired = length-set s.words (line_of i) (suc n) ∙ g.paired ∙ sym (length-set s.homes (line_of i) none);
    free = λ k e. ⊎_elim
        (λ (hit : (line_of k ≡ line_of i) × (suc n ≡ 0)). let z = hit.1 in absurd (omega arith))
        (λ (miss : (line_of k ≢ line_of i) × (get_elem? s.words (line_of k) ≡ some 0)). let u = g.free k miss.1 in (u.0, set_else s.homes (line_of i) (line_of k) none miss.0 ∙ u.1, u.2))
        (at_set s.words (line_of i) (line_of k) (suc n) 0 e);
    held = λ k m e. ⊎_elim
        (λ (hit : (line_of k ≡ line_of i) × (suc n ≡ suc m)). let below = below_of s.words (line_of i) 0 at in let p = g.paired in
        ap (λ j. get_elem? (set s.homes (line_of i) none) j) hit.0 ∙ set_here s.homes (line_of i) none (omega arith))
        (λ (miss : (line_of k ≢ line_of i) × (get_elem? s.words (line_of k) ≡ some (suc m))). set_else s.homes (line_of i) (line_of k) none miss.0 ∙ g.held k m miss.1)
        (at_set s.words (line_of i) (line_of k) (suc n) (suc m) e);
  }

  -- a held lock stays held, by whatever number
  marked : (s : State (Option X) V) (views : List V) (i m n : ℕ) → Guarded fits s → get_elem? s.words (line_of i) ≡ some (suc m)
      → Guarded fits record { words = set s.words (line_of i) (suc n); homes = s.homes; views = views }
  marked s views i m n g at = record {
    paired = length-set s.words (line_of i) (suc n) ∙ g.paired;
    free = λ k e. ⊎_elim
        (λ (hit : (line_of k ≡ line_of i) × (suc n ≡ 0)). let z = hit.1 in absurd (omega arith))
        (λ (miss : (line_of k ≢ line_of i) × (get_elem? s.words (line_of k) ≡ some 0)). g.free k miss.1)
        (at_set s.words (line_of i) (line_of k) (suc n) 0 e);
    held = λ k p e. ⊎_elim
        (λ (hit : (line_of k ≡ line_of i) × (suc n ≡ suc p)). ap (λ j. get_elem? s.homes j) hit.0 ∙ g.held i m at)
        (λ (miss : (line_of k ≢ line_of i) × (get_elem? s.words (line_of k) ≡ some (suc p))). g.held k p miss.1)
        (at_set s.words (line_of i) (line_of k) (suc n) (suc p) e);
  }

  -- a lock becomes free, and its slot comes home with a value that fits
  released : (s : State (Option X) V) (views : List V) (i : ℕ) (x : X) → Guarded fits s → line_of i < length s.homes → fits i x
      → Guarded fits record { words = set s.words (line_of i) 0; homes = set s.homes (line_of i) (some (Some x)); views = views }
  released s views i x g below ok = record {
    paired = length-set s.words (line_of i) 0 ∙ g.paired ∙ sym (length-set s.homes (line_of i) (some (Some x)));
    free = λ k e. ⊎_elim
        (λ (hit : (line_of k ≡ line_of i) × (0 ≡ 0)). (
          x,
          ap (λ j. get_elem? (set s.homes (line_of i) (some (Some x))) j) hit.0 ∙
              set_here s.homes (line_of i) (some (Some x)) below,
          subst (λ j. fits j x) (sym (one_lock k i hit.0)) ok,
        ))
        (λ (miss : (line_of k ≢ line_of i) × (get_elem? s.words (line_of k) ≡ some 0)). let u = g.free k miss.1 in (u.0, set_else s.homes (line_of i) (line_of k) (some (Some x)) miss.0 ∙ u.1, u.2))
        (at_set s.words (line_of i) (line_of k) 0 0 e);
    held = λ k m e. ⊎_elim
        (λ (hit : (line_of k ≡ line_of i) × (0 ≡ suc m)). let z = hit.1 in absurd (omega arith))
        (λ (miss : (line_of k ≢ line_of i) × (get_elem? s.words (line_of k) ≡ some (suc m))). set_else s.homes (line_of i) (line_of k) (some (Some x)) miss.0 ∙ g.held k m miss.1)
        (at_set s.words (line_of i) (line_of k) 0 (suc m) e);
  }

  -- a swap takes the slot where it finds the lock free, and leaves it held; the new seat's view is what it is told
  swaps_at : (told : V → Type 0) (i to : ℕ) (v : V) → told v → (s : State (Option X) V) → Guarded fits s → line_of i < length s.words → (n : ℕ) → n ≡ slice_index s.words (line_of i)
      → (w : V) × (a : Act (Option X)) × Valid s.homes [] a × Guarded fits record {
        words = set s.words (line_of i) (suc to);
        homes = homes_after s.homes [] a;
        views = s.views ++ w ∷ [];
      } × (told w × ((k : ℕ) → line_of i ≡ line_of k → n ≡ 0 → HasValue fits k (w, carried_after [] a)))
  swaps_at told i to v tells s g below zero is =
      let at = word_at s.words (line_of i) 0 below is in
      let t = g.free i at in (
        v,
        takes (line_of i) (Some t.0),
        t.1,
        seized s _ i to g at,
        (tells, λ k same _. (t.0, ap (λ j. (j, Some t.0) ∷ []) same, subst (λ j. fits j t.0) (one_lock i k same) t.2)),
      )
  swaps_at told i to v tells s g below (suc m) is =
      let at = word_at s.words (line_of i) (suc m) below is in (v, keeps, tt, marked s _ i m to g at, (tells, λ (k : ℕ) (same : line_of i ≡ line_of k) (z : suc m ≡ 0). absurd (omega arith)))

  pub swaps : (told : V → Type 0) (slots i word : ℕ) (v : V) → told v → line_of i < slots → 0 < word →
      Arrives (Guarded {V = V} fits) slots (line_of i) (λ _. word) (λ found me. told me.0 × ((k : ℕ) → line_of i ≡ line_of k → found ≡ 0 → HasValue fits k me))
  swaps told slots i zero v tells below held s g wide small = absurd (omega arith)
  swaps told slots i (suc to) v tells below held s g wide small = swaps_at told i to v tells s g (let p = g.paired in omega arith) (slice_index s.words (line_of i)) refl

-- a swap to 0 by who has the slot brings it home
pub releases : {X T : Type 0} (fits : ℕ → X → Type 0) (slots id i : ℕ) (m : Me (Option X) (Seen T)) (x : X) → line_of i < slots → m.1 ≡ (line_of i, Some x) ∷ [] → fits i x
    → Allows (Guarded {V = Seen T} fits) slots id m (line_of i) (λ _. 0) (λ found me. (me.1 ≡ []) × (me.0.found ≡ found))
releases {X} {T} fits slots id i m x below has ok s g wide at small =
    let n = slice_index s.words (line_of i) in
    subst (λ (c : List (ℕ × Option X)). (w : Seen T) × (a : Act (Option X)) × Valid s.homes c a × Guarded fits (stepped s (line_of i) 0 id c w a) ×
    ((carried_after c a ≡ []) × (w.found ≡ n))) (sym has) (record { tag = m.0.tag; found = n; left = 0 }, gives, tt, released fits s _ i x g (omega arith) ok, (refl, refl))
