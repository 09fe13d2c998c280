-- A snapshot lies in a lifetime exactly where the last that isn't passed does.
use Rattle.std.proofs.Common.{◌≡◌, ℕ, zero, suc, ◌-◌, ◌<◌, ◌≤◌, List, [], ◌∷◌, length, drop, slice_index, Bool, true, false, not, ◌||◌, Option, Some, None, refl, sym, ◌∙◌, subst, arith}
use Rattle.std.specs.Prelude.{nat_le}
use Rattle.std.proofs.lemmas.Bool.Decides.{nat_tests}
use Rattle.std.proofs.lemmas.Bool.{or_right}
use Rattle.hg_base.specs.Lists.{Each}
use Rattle.hg_base.proofs.ListFacts.{cases, each_keeps}
use Rattle.hg_chains.specs.Sweeps.{Rises}
use Rattle.hg_base.specs.Lifetimes.{is_within, is_in_use, goes}
use Rattle.hg_chains.specs.Merging.{Follows, HasPassed, last_reaches}

not_within : (n up s : ℕ) (b : Bool) → up ≤ s → b ≡ false → (is_within n up s || b) ≡ false
not_within n up s b h e = grind (arith, nat_tests)

-- what is passed lies in no lifetime
pub none_passed : (n up : ℕ) (xs : List ℕ) → Each (λ s. up ≤ s) xs → is_in_use xs n up ≡ false
none_passed n up [] h = refl
none_passed n up (x ∷ xs) h = not_within n up x (is_in_use xs n up) h.0 (none_passed n up xs h.1)

too_low : (n up s : ℕ) (b : Bool) → s < n → b ≡ false → (is_within n up s || b) ≡ false
too_low n up s b h e = grind (arith, nat_tests)

each_got : (a : ℕ) (xs : List ℕ) (k : ℕ) → k < length xs → Each (λ b. a ≤ b) xs → a ≤ slice_index xs k
each_got a [] k h e = absurd (omega (arith, h))
each_got a (x ∷ xs) zero h e = e.0
each_got a (x ∷ xs) (suc k) h e = let less : k < length xs = omega (arith, h) in each_got a xs k less e.1

-- where the last is below n, so are all before it
pub none_left : (n up : ℕ) (xs : List ℕ) (k : ℕ) → Rises xs → k < length xs → slice_index xs k < n → Each (λ s. up ≤ s) (drop (suc k) xs) → is_in_use xs n up ≡ false
none_left n up [] k r h e p = refl
none_left n up (x ∷ xs) zero r h e p = too_low n up x (is_in_use xs n up) e (none_passed n up xs p)
none_left n up (x ∷ xs) (suc k) r h e p =
    let less : k < length xs = omega (arith, h) in
    let under = each_got x xs k less r.0 in
    let low : x < n = omega (arith, under, e) in
    too_low n up x (is_in_use xs n up) low (none_left n up xs k r.1 less e p)

here : (n up s : ℕ) (b : Bool) → n ≤ s → s < up → (is_within n up s || b) ≡ true
here n up s b h e = grind (arith, nat_tests)

-- where the last is at or over n, it lies there
pub last_lies : (n up : ℕ) (xs : List ℕ) (k : ℕ) → k < length xs → n ≤ slice_index xs k → slice_index xs k < up → is_in_use xs n up ≡ true
last_lies n up [] k h a b = absurd (omega (arith, h))
last_lies n up (x ∷ xs) zero h a b = here n up x (is_in_use xs n up) a b
last_lies n up (x ∷ xs) (suc k) h a b = let less : k < length xs = omega (arith, h) in or_right (is_within n up x) (is_in_use xs n up) (last_lies n up xs k less a b)

le_of : (m n : ℕ) → nat_le m n ≡ true → m ≤ n
le_of m n e = grind (arith, nat_tests)

lt_of : (m n : ℕ) → nat_le m n ≡ false → n < m
lt_of m n e = grind (arith, nat_tests)

pub in_use : (n up left : ℕ) (xs : List ℕ) → Rises xs → left ≤ length xs → Each (λ s. up ≤ s) (drop left xs) → (0 < left → slice_index xs (left - 1) < up) → last_reaches n left xs ≡ is_in_use xs n up
in_use n up zero xs r h p b = sym (none_passed n up xs p)
in_use n up (suc k) xs r h p b =
    let less : k < length xs = omega (arith, h) in
    let same : suc k - 1 ≡ k = omega arith in
    let below : slice_index xs k < up = subst (λ m. slice_index xs m < up) same (b (omega arith)) in
    cases (nat_le n (slice_index xs k))
    (λ e. e ∙ sym (last_lies n up xs k less (le_of n (slice_index xs k) e) below))
    (λ e. e ∙ sym (none_left n up xs k r less (lt_of n (slice_index xs k) e) p))

-- what a number has passed, a number that follows it has
pub passed_on : (up number : Option ℕ) (left : ℕ) (xs : List ℕ) → HasPassed up left xs → Follows up number → HasPassed number left xs
passed_on None None left xs h f = h
passed_on None (Some n) left xs h f = subst (Each (λ s. n ≤ s)) (sym h) tt
passed_on (Some up) None left xs h f = absurd f
passed_on (Some up) (Some n) left xs h f = each_keeps (λ s. up ≤ s) (λ s. n ≤ s) (λ s k. omega (arith, k, f)) (drop left xs) h

-- one more is passed
one_more : (up k : ℕ) (xs : List ℕ) → k < length xs → up ≤ slice_index xs k → Each (λ s. up ≤ s) (drop (suc k) xs) → Each (λ s. up ≤ s) (drop k xs)
one_more up k [] h a p = absurd (omega (arith, h))
one_more up zero (x ∷ xs) h a p = (a, p)
one_more up (suc k) (x ∷ xs) h a p = let less : k < length xs = omega (arith, h) in one_more up k xs less a p

pub pass_one : (up left : ℕ) (xs : List ℕ) → 0 < left → left ≤ length xs → up ≤ slice_index xs (left - 1) → Each (λ s. up ≤ s) (drop left xs) → Each (λ s. up ≤ s) (drop (left - 1) xs)
pass_one up left xs some h a p =
    let same : left ≡ suc (left - 1) = omega (arith, some) in
    let less : left - 1 < length xs = omega (arith, some, h) in
    one_more up (left - 1) xs less a (subst (λ m. Each (λ s. up ≤ s) (drop m xs)) same p)

pub goes_here : (horizon : ℕ) (xs : List ℕ) (up n : ℕ) (seen : Bool) → up ≤ horizon → seen ≡ is_in_use xs n up → not seen ≡ goes horizon xs (Some up) (Some n)
goes_here horizon xs up n seen h e = grind (arith, nat_tests)

-- at first none is passed
pub none_behind : (xs : List ℕ) → drop (length xs) xs ≡ []
none_behind [] = refl
none_behind (x ∷ xs) = none_behind xs
