-- Two lists that have each number as often have the same numbers.
use Rattle.std.proofs.Common.{◌≡◌, ℕ, zero, suc, ◌+◌, ◌<◌, ◌≤◌, List, [], ◌∷◌, length, Bool, true, false, refl, sym, subst, arith}
use Rattle.std.specs.Prelude.{max, ◌==◌, if◌then◌else◌, Contains}
use Rattle.std.proofs.lemmas.Bool.Decides.{nat_tests}
use Rattle.hg_base.specs.Lists.{Each}
use Rattle.hg_core.specs.Sums.{sum_below}
use Rattle.hg_core.proofs.Sums.{below_none, below_same, below_grown}
use Rattle.hg_core.specs.Passes.{IsWhole}
use Rattle.hg_rule.specs.declared.view.PassPart.{PassPart}
use Rattle.hg_rule.specs.Facts.{record_of}
use Rattle.hg_tracker.specs.declared.gathered.Gathered.{Gathered}
use Rattle.hg_tracker.specs.Entries.{times}
use Rattle.hg_tracker.specs.Gathers.{IsGatherOf}
use Rattle.hg_tracker.proofs.After.{some_up_to, masks_found}
use Rattle.hg_store.specs.Clearing.{HaveSame}

there_once : (n : ℕ) (xs : List ℕ) → Contains xs n → 0 < times n xs
there_once n [] h = absurd (omega (arith, h.1))
there_once n (m ∷ xs) (zero, l, e) = let same : (m == n) ≡ true = grind (arith, nat_tests, e) in subst (λ b. 0 < (if b then suc (times n xs) else times n xs)) (sym same) (omega arith)
there_once n (m ∷ xs) (suc k, l, e) = go (m == n) (there_once n xs (k, omega (arith, l), e))
  where
    go : (b : Bool) → 0 < times n xs → 0 < (if b then suc (times n xs) else times n xs)
    go true h = omega arith
    go false h = h

once_there : (n : ℕ) (xs : List ℕ) → 0 < times n xs → Contains xs n
once_there n [] l = absurd (omega (arith, l))
once_there n (m ∷ xs) l = go (m == n) refl l (λ some. once_there n xs some)
  where
    go : (b : Bool) → (m == n) ≡ b → 0 < (if b then suc (times n xs) else times n xs) → (0 < times n xs → Contains xs n) → Contains (m ∷ xs) n
    go true q h later = (0, omega arith, grind (arith, nat_tests, q))
    go false q h later = let c = later h in (suc c.0, omega (arith, c.1), c.2)

pub have_same : (xs ys : List ℕ) → ((n : ℕ) → times n xs ≡ times n ys) → HaveSame xs ys
have_same xs ys same n = (
  λ h. once_there n ys (subst (λ k. 0 < k) (same n) (there_once n xs h)),
  λ h. once_there n xs (subst (λ k. 0 < k) (sym (same n)) (there_once n ys h)),
)

-- ---- and are as long

top : List ℕ → ℕ
top [] = 0
top (m ∷ xs) = max (suc m) (top xs)

below_top : (n : ℕ) (xs : List ℕ) → top xs ≤ n → Each (λ m. m < n) xs
unfolding top
below_top n [] l = tt
below_top n (m ∷ xs) l = (omega (arith, l), below_top n xs (omega (arith, l)))

counted : (n : ℕ) (xs : List ℕ) → Each (λ m. m < n) xs → sum_below n (λ k. times k xs) ≡ length xs
counted n [] h = below_none n
counted n (m ∷ xs) h =
    let grown = below_grown n m 1 (λ k. times k xs) (λ k. times k (m ∷ xs)) h.0 (λ k other. apart k other (m == k) refl) (here (m == m) refl) in
    omega (arith, grown, counted n xs h.1)
  where
    apart : (k : ℕ) → (k ≡ m → ⊥) → (b : Bool) → (m == k) ≡ b → (if b then suc (times k xs) else times k xs) ≡ times k xs
    apart k other true q = absurd (other (let same : m ≡ k = grind (arith, nat_tests, q) in sym same))
    apart k other false q = refl

    here : (b : Bool) → (m == m) ≡ b → (if b then suc (times m xs) else times m xs) ≡ times m xs + 1
    here true q = omega arith
    here false q = absurd (let apart : m ≡ m → ⊥ = grind (arith, nat_tests, q) in apart refl)

pub same_length : (xs ys : List ℕ) → ((n : ℕ) → times n xs ≡ times n ys) → length xs ≡ length ys
same_length xs ys same =
    let n = max (top xs) (top ys) in
    let x = counted n xs (below_top n xs (omega arith)) in
    let y = counted n ys (below_top n ys (omega arith)) in
    let sums : sum_below n (λ k. times k xs) ≡ sum_below n (λ k. times k ys) = below_same n (λ k. times k ys) (λ k. times k xs) (λ k less. same k) in
    omega (arith, x, y, sums)

-- ---- what was gathered

-- a gather shows a whole record
pub whole_record : (sessions : ℕ) (part : PassPart) (g : Gathered) → IsGatherOf sessions part g → IsWhole sessions (record_of part)
whole_record sessions part g h = record { registers = λ j inside. some_up_to sessions j part.loaded h.loaded.0 inside.first inside.last; masks = λ j. masks_found j part.loaded h.loaded.1 }
