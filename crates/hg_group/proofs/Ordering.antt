-- The order of commits, with a batch more.
use Rattle.std.proofs.Common.{◌≡◌, ℕ, zero, suc, ◌+◌, ◌<◌, ◌≤◌, Bool, true, false, [], ◌∷◌, ◌++◌, length, map, refl, sym, ap, ◌∙◌, subst, arith, append_assoc, append-nil, length-append}
use Rattle.std.specs.Prelude.{◌==◌, ◌&&◌, ⊤}
use Rattle.std.proofs.lemmas.Bool.Decides.{Decides-eqb, nat_tests}
use Rattle.std.proofs.lemmas.List.{map-append}
use Rattle.hg_base.specs.Lists.{Each}
use Rattle.hg_base.specs.History.{Commit, Group, History}
use Rattle.hg_core.specs.Commits.{AreEarlier}
use Rattle.hg_rule.proofs.Lists.{each_append}
use Rattle.hg_group.specs.Order.{Pairs, pair_of, flat, same_pair, later, last_place, IsRising, FollowsQueue}

-- ---- pairs

-- no pair of the list is this one
abbrev pub IsNone : ℕ × ℕ → Pairs → Type 0
IsNone p ps = Each (λ q. same_pair q p ≡ false) ps

-- no pair twice
abbrev pub NoPairTwice : Pairs → Type 0
NoPairTwice [] = ⊤
NoPairTwice (p ∷ ps) = IsNone p ps × NoPairTwice ps

same_self : (p : ℕ × ℕ) → same_pair p p ≡ true
same_self p = (λ i. alike p.0 i && alike p.1 i)
  where
    alike : (n : ℕ) → (n == n) ≡ true
    alike n = grind (arith, nat_tests)

-- ---- last places

none_last : (p : ℕ × ℕ) (ps : Pairs) → IsNone p ps → last_place p ps ≡ 0
none_last p [] h = refl
none_last p (q ∷ ps) h = (λ i. later (h.0 i) (none_last p ps h.1 i))

more_none : (p : ℕ × ℕ) (qs bs : Pairs) → IsNone p bs → last_place p (qs ++ bs) ≡ last_place p qs
more_none p [] bs h = none_last p bs h
more_none p (q ∷ qs) bs h = ap (later (same_pair q p)) (more_none p qs bs h)

-- a pair that stands behind these, and not again
here_last : (p : ℕ × ℕ) (qs bs : Pairs) → IsNone p bs → last_place p (qs ++ p ∷ bs) ≡ suc (length qs)
here_last p [] bs h = (λ i. later (same_self p i) (none_last p bs h i))
here_last p (q ∷ qs) bs h = ap (later (same_pair q p)) (here_last p qs bs h)

later_most : (b : Bool) (n m : ℕ) → n ≤ m → later b n ≤ suc m
later_most true zero m l = omega arith
later_most false zero m l = omega arith
later_most b (suc n) m l = omega (arith, l)

last_most : (p : ℕ × ℕ) (qs : Pairs) → last_place p qs ≤ length qs
last_most p [] = omega arith
last_most p (q ∷ qs) = later_most (same_pair q p) (last_place p qs) (length qs) (last_most p qs)

-- ---- rising

rising_more : (n : ℕ) (ps qs bs : Pairs) → Each (λ p. IsNone p bs) ps → IsRising n ps qs → IsRising n ps (qs ++ bs)
rising_more n [] qs bs f h = tt
rising_more n (p ∷ ps) qs bs f h = let e = more_none p qs bs f.0 in (subst (λ m. n < m) (sym e) h.0, subst (λ m. IsRising m ps (qs ++ bs)) (sym e) (rising_more (last_place p qs) ps qs bs f.1 h.1))

rising_from : (m n : ℕ) (ps qs : Pairs) → m ≤ n → IsRising n ps qs → IsRising m ps qs
rising_from m n [] qs l h = tt
rising_from m n (p ∷ ps) qs l h = (omega (arith, l, h.0), h.1)

-- those that were appended
rising_last : (qs bs : Pairs) → NoPairTwice bs → IsRising (length qs) bs (qs ++ bs)
rising_last qs [] d = tt
rising_last qs (b ∷ bs) d =
    let e = here_last b qs bs d.0 in
    let n : ℕ = length qs in
    let more : suc n ≡ length (qs ++ b ∷ []) = sym (length-append qs (b ∷ []) ∙ (let x : n + 1 ≡ suc n = omega arith in x)) in (
      subst (λ m. n < m) (sym e) (omega arith),
      subst (λ m. IsRising m bs (qs ++ b ∷ bs)) (sym (e ∙ more))
          (subst (IsRising (length (qs ++ b ∷ [])) bs) (append_assoc qs (b ∷ []) bs) (rising_last (qs ++ b ∷ []) bs d.1)),
    )

rising_both : (n top : ℕ) (ps rs qs : Pairs) → n ≤ top → Each (λ p. last_place p qs ≤ top) ps → IsRising n ps qs → IsRising top rs qs → IsRising n (ps ++ rs) qs
rising_both n top [] rs qs l f a b = rising_from n top rs qs l b
rising_both n top (p ∷ ps) rs qs l f a b = (a.0, rising_both (last_place p qs) top ps rs qs f.0 f.1 a.1 b)

each_last : (ps qs bs : Pairs) → Each (λ p. IsNone p bs) ps → Each (λ p. last_place p (qs ++ bs) ≤ length qs) ps
each_last [] qs bs f = tt
each_last (p ∷ ps) qs bs f = (subst (λ m. m ≤ length qs) (sym (more_none p qs bs f.0)) (last_most p qs), each_last ps qs bs f.1)

flat_more : (h : History) (g : Group) → flat (h ++ g ∷ []) ≡ flat h ++ g
flat_more [] g = append-nil g
flat_more (f ∷ h) g = ap (λ l. f ++ l) (flat_more h g) ∙ sym (append_assoc f (flat h) g)

-- what was popped and not committed changes no last place
pub follows_refused : (h : History) (qs bs : Pairs) → Each (λ p. IsNone p bs) (map pair_of (flat h)) → FollowsQueue h qs → FollowsQueue h (qs ++ bs)
follows_refused h qs bs f a = rising_more 0 (map pair_of (flat h)) qs bs f a

-- a group of what was popped comes behind
pub follows_more : (h : History) (g : Group) (qs bs : Pairs) → map pair_of g ≡ bs → NoPairTwice bs → Each (λ p. IsNone p bs) (map pair_of (flat h)) → FollowsQueue h qs →
    FollowsQueue (h ++ g ∷ []) (qs ++ bs)
follows_more h g qs bs is d f a =
    subst (λ l. IsRising 0 l (qs ++ bs)) (sym (ap (map pair_of) (flat_more h g) ∙ (map-append pair_of (flat h) g ∙ ap (λ l. map pair_of (flat h) ++ l) is)))
    (rising_both 0 (length qs) (map pair_of (flat h)) bs (qs ++ bs) (omega arith) (each_last (map pair_of (flat h)) qs bs f) (rising_more 0 (map pair_of (flat h)) qs bs f a) (rising_last qs bs d))

-- ---- an open transaction is none of those that were committed

pub earlier : (h : History) (j x : ℕ) → Each (AreEarlier j x) h → Each (λ p. same_pair (j, x) p ≡ false) (map pair_of (flat h))
earlier [] j x f = tt
earlier (g ∷ h) j x f = subst (Each (λ p. same_pair (j, x) p ≡ false)) (sym (map-append pair_of g (flat h)))
    (each_append (λ p. same_pair (j, x) p ≡ false) (map pair_of g) (map pair_of (flat h)) (group g f.0) (earlier h j x f.1))
  where
    apart : (c : Commit) → (c.session ≡ j → c.transaction < x) → same_pair (j, x) (pair_of c) ≡ false
    apart c l = go (j == c.session) refl
      where
        go : (b : Bool) → (j == c.session) ≡ b → (b && (x == c.transaction)) ≡ false
        go true e = let less : c.transaction < x = l (sym ((Decides-eqb j c.session).0 e)) in let y : ℕ = c.transaction in let k : (x == y) ≡ false = grind (arith, nat_tests) in k
        go false e = refl

    group : (g : Group) → AreEarlier j x g → Each (λ p. same_pair (j, x) p ≡ false) (map pair_of g)
    group [] a = tt
    group (c ∷ g) a = (apart c a.0, group g a.1)
