-- A sweep takes nothing that a protected reader sees.
use Rattle.std.proofs.Common.{◌≡◌, ℕ, zero, suc, inl, inr, ◌<◌, ◌≤◌, List, [], ◌∷◌, length, Bool, true, false, ◌||◌, Option, Some, None, refl, ap, sym, ◌∙◌, subst, arith}
use Rattle.std.specs.Prelude.{cond, ⊤, find, option_map, Contains}
use Rattle.std.proofs.lemmas.Bool.Decides.{nat_tests}
use Rattle.std.specs.Prelude.{nat_le}
use Rattle.std.proofs.lemmas.Bool.{or_right}
use Rattle.hg_base.proofs.ListFacts.{cases}
use Rattle.hg_chains.specs.declared.version.Stamp.{Stamp}
use Rattle.hg_chains.specs.declared.version.Stamp.TheVariants.{Written, Numbered}
use Rattle.hg_chains.specs.declared.version.Version.{Version}
use Rattle.hg_chains.specs.Versions.{number_in}
use Rattle.hg_chains.specs.Sweeps.{swept}
use Rattle.hg_base.specs.Lifetimes.{is_within, is_in_use, goes, IsGuarded}
use Rattle.hg_chains.proofs.Sweeps.{swept_from, swept_goes, swept_stays}
use Rattle.hg_chains.specs.Versions.{is_at_most, has_at_most, image_at}

-- a reader is below the number, if that is one
abbrev IsBefore : ℕ → Option ℕ → Type 0
IsBefore s None = ⊤
IsBefore s (Some up) = s < up

pub lies_here : (n up s : ℕ) (b : Bool) → n ≤ s → s < up → (is_within n up s || b) ≡ true
lies_here n up s b h e = grind (arith, nat_tests)

pub lies : (n up s : ℕ) (xs : List ℕ) → n ≤ s → s < up → Contains xs s → is_in_use xs n up ≡ true
lies n up s [] a b (k, within, e) = absurd (omega (arith, within))
lies n up s (x ∷ xs) a b (zero, within, e) = subst (λ y. (is_within n up y || is_in_use xs n up) ≡ true) (sym e) (lies_here n up s (is_in_use xs n up) a b)
lies n up s (x ∷ xs) a b (suc k, within, e) = let less : k < length xs = omega (arith, within) in or_right (is_within n up x) (is_in_use xs n up) (lies n up s xs a b (k, less, e))

pub over_horizon : (horizon up n s : ℕ) (xs : List ℕ) → horizon ≤ s → s < up → goes horizon xs (Some up) (Some n) ≡ false
over_horizon horizon up n s xs a b = grind (arith, nat_tests)

pub in_use_stays : (horizon up n : ℕ) (xs : List ℕ) → is_in_use xs n up ≡ true → goes horizon xs (Some up) (Some n) ≡ false
in_use_stays horizon up n xs e = grind (arith, nat_tests)

at_most : (n s : ℕ) → nat_le n s ≡ true → n ≤ s
at_most n s e = grind (arith, nat_tests)

over : (n s : ℕ) → nat_le n s ≡ false → s < n
over n s e = grind (arith, nat_tests)

-- what it sees stays
seen_stays : (horizon s : ℕ) (xs : List ℕ) (up : Option ℕ) (v : Stamp) → IsGuarded horizon xs s → IsBefore s up → has_at_most s v ≡ true → goes horizon xs up (number_in v) ≡ false
seen_stays horizon s xs None v g b e = refl
seen_stays horizon s xs (Some up) (Written w) g b e = refl
seen_stays horizon s xs (Some up) (Numbered n by) (inl g) b e = over_horizon horizon up n s xs g b
seen_stays horizon s xs (Some up) (Numbered n by) (inr g) b e = in_use_stays horizon up n xs (lies n up s xs (at_most n s e) b g)

before_next : (s : ℕ) (v : Stamp) → has_at_most s v ≡ false → IsBefore s (number_in v)
before_next s (Written w) e = tt
before_next s (Numbered n by) e = over n s e

found_swept : (horizon s : ℕ) (xs : List ℕ) (up : Option ℕ) (vs : List Version) → IsGuarded horizon xs s → IsBefore s up → find (is_at_most s) (swept_from horizon xs up vs) ≡ find (is_at_most s) vs
found_swept horizon s xs up [] g b = refl
found_swept horizon s xs up (v ∷ vs) g b =
    cases (is_at_most s v)
    (λ e.
    ap (find (is_at_most s)) (swept_stays horizon xs up v vs (seen_stays horizon s xs up v.stamp g b e))
    ∙ (λ i. cond (e i) (Some v) (find (is_at_most s) (swept_from horizon xs (number_in v.stamp) vs)))
    ∙ sym (ap (λ t. cond t (Some v) (find (is_at_most s) vs)) e))
    (λ e.
    let later = found_swept horizon s xs (number_in v.stamp) vs g (before_next s v.stamp e) in
    let unseen : find (is_at_most s) (v ∷ vs) ≡ find (is_at_most s) vs = ap (λ t. cond t (Some v) (find (is_at_most s) vs)) e in
    cases (goes horizon xs up (number_in v.stamp))
    (λ f. ap (find (is_at_most s)) (swept_goes horizon xs up v vs f) ∙ later ∙ sym unseen)
    (λ f.
    ap (find (is_at_most s)) (swept_stays horizon xs up v vs f)
    ∙ ap (λ t. cond t (Some v) (find (is_at_most s) (swept_from horizon xs (number_in v.stamp) vs))) e
    ∙ later ∙ sym unseen))

pub seen_same : (horizon : ℕ) (xs : List ℕ) (vs : List Version) (s : ℕ) → IsGuarded horizon xs s → image_at s (swept horizon xs vs) ≡ image_at s vs
seen_same horizon xs vs s g = ap (option_map (λ v. v.image)) (found_swept horizon s xs None vs g tt)
