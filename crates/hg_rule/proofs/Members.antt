-- Sessions that handed over, each with its part: what holds of one, and that none is there twice.
use Rattle.std.proofs.Common.{◌≡◌, ℕ, ◌+◌, ◌<◌, ◌≤◌, Bool, true, false, eqb, [], ◌∷◌, ◌==◌, refl, sym, ap, subst, arith}
use Rattle.std.proofs.Common.{eq-eqb, true≢false}
use Rattle.std.specs.Prelude.{if◌then◌else◌, ◌||◌}
use Rattle.std.proofs.lemmas.Bool.Decides.{Decides-eqb, nat_tests}
use Rattle.hg_base.specs.Lists.{Each}
use Rattle.hg_base.specs.History.{NoNumberTwice}
use Rattle.hg_core.specs.Logs.{is_in}
use Rattle.hg_core.proofs.NewGroup.{first_in as in_first, rest_in}
use Rattle.hg_rule.specs.declared.view.SessionPart.{SessionPart}
use Rattle.hg_rule.specs.declared.view.Part.{Part}
use Rattle.hg_rule.specs.declared.view.Part.TheVariants.{Lent}
use Rattle.hg_rule.specs.Keys.{Key, session_key, one, has, count, shares}
use Rattle.hg_rule.specs.Handing.{Members, lent, who, part_of, flag, numbered}

-- what holds of each holds of the one that is found
pub each_part : (P : ℕ → SessionPart → Type 0) (ms : Members) (j : ℕ) → Each (λ m. P m.0 m.1) ms → is_in (who ms) j ≡ true → P j (part_of j ms)
each_part P [] j h e = absurd (true≢false (sym e))
each_part P (m ∷ ms) j h e = go (m.0 == j) refl e (λ k. each_part P ms j h.1 k)
  where
    go : (b : Bool) → (m.0 == j) ≡ b → (b || is_in (who ms) j) ≡ true → (is_in (who ms) j ≡ true → P j (part_of j ms)) → P j (if b then m.1 else part_of j ms)
    go true q k later = subst (λ n. P n m.1) ((Decides-eqb m.0 j).0 q) h.0
    go false q k later = later k

pub each_lent : (P : Part → Type 0) (ms : Members) → Each P (lent ms) → Each (λ m. P (Lent m.0 m.1)) ms
each_lent P [] h = tt
each_lent P (m ∷ ms) h = (h.0, each_lent P ms h.1)

pub each_who : (P : ℕ → Type 0) (ms : Members) → Each (λ m. P m.0) ms → Each P (who ms)
each_who P [] h = tt
each_who P (m ∷ ms) h = (h.0, each_who P ms h.1)

pub each_two : (P Q R : ℕ × SessionPart → Type 0) (ms : Members) → ((m : ℕ × SessionPart) → P m → Q m → R m) → Each P ms → Each Q ms → Each R ms
each_two P Q R [] f a b = tt
each_two P Q R (m ∷ ms) f a b = (f m a.0 b.0, each_two P Q R ms f a.1 b.1)

pub each_in : (ms : Members) → Each (λ m. is_in (who ms) m.0 ≡ true) ms
each_in [] = tt
each_in (m ∷ ms) = (in_first m.0 (who ms), later ms (each_in ms))
  where
    later : (ns : Members) → Each (λ n. is_in (who ms) n.0 ≡ true) ns → Each (λ n. is_in (who (m ∷ ms)) n.0 ≡ true) ns
    later [] h = tt
    later (n ∷ ns) h = (rest_in n.0 m.0 (who ms) h.0, later ns h.1)

-- a member has a part of its own
pub there : (ms : Members) (j : ℕ) → is_in (who ms) j ≡ true → 0 < count (session_key j) (lent ms)
there [] j e = absurd (true≢false (sym e))
there (m ∷ ms) j e = go (m.0 == j) refl e (λ k. there ms j k)
  where
    go : (b : Bool) → (m.0 == j) ≡ b → (b || is_in (who ms) j) ≡ true → (is_in (who ms) j ≡ true → 0 < count (session_key j) (lent ms)) → 0 < one (eqb m.0 j) + count (session_key j) (lent ms)
    go true q k later = let x : ℕ = one (eqb m.0 j) in let y : ℕ = count (session_key j) (lent ms) in let f : x ≡ 1 = ap one (eq-eqb m.0 j ((Decides-eqb m.0 j).0 q)) in omega arith
    go false q k later = let x : ℕ = one (eqb m.0 j) in let y : ℕ = count (session_key j) (lent ms) in let l : 0 < y = later k in omega arith

-- who has no part is none of them
pub not_in : (ms : Members) (j : ℕ) → count (session_key j) (lent ms) ≡ 0 → is_in (who ms) j ≡ false
not_in ms j z = go (is_in (who ms) j) refl
  where
    go : (b : Bool) → is_in (who ms) j ≡ b → b ≡ false
    go true e = absurd (let x : ℕ = count (session_key j) (lent ms) in let l : 0 < x = there ms j e in let z' : x ≡ 0 = z in omega arith)
    go false e = refl

pub lent_shares : (ms : Members) → shares (lent ms) ≡ 0
lent_shares [] = refl
lent_shares (m ∷ ms) = let x : ℕ = shares (lent ms) in let e : x ≡ 0 = lent_shares ms in let f : 0 + x ≡ 0 = omega arith in f

pub flag_count : (k : Key) (j : ℕ) (ms : Members) → count k (lent (flag j ms)) ≡ count k (lent ms)
flag_count k j [] = refl
flag_count k j (m ∷ ms) = ap (λ n. one (has k (Lent m.0 m.1)) + n) (flag_count k j ms)

pub numbered_count : (k : Key) (n : ℕ) (ms : Members) → count k (lent (numbered n ms)) ≡ count k (lent ms)
numbered_count k n [] = refl
numbered_count k n (m ∷ ms) = ap (λ x. one (has k (Lent m.0 m.1)) + x) (numbered_count k n ms)

-- each part once: no session twice
pub none_twice : (ms : Members) → ((j : ℕ) → count (session_key j) (lent ms) ≤ 1) → NoNumberTwice (who ms)
none_twice [] h = tt
none_twice (m ∷ ms) h = (
  not_in ms m.0 (let x : ℕ = one (eqb m.0 m.0) in let y : ℕ = count (session_key m.0) (lent ms) in let l : x + y ≤ 1 = h m.0 in let e : x ≡ 1 = ap one (eq-eqb m.0 m.0 refl) in omega arith),
  none_twice ms (λ j. let x : ℕ = one (eqb m.0 j) in let y : ℕ = count (session_key j) (lent ms) in let l : x + y ≤ 1 = h j in omega arith),
)

pub alike : (j : ℕ) → (j == j) ≡ true
alike j = grind (arith, nat_tests)

pub unlike : (j k : ℕ) → (k ≡ j → ⊥) → (j == k) ≡ false
unlike j k other = grind (arith, nat_tests)
