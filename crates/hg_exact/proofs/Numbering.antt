-- Commit numbers that ascend are 1, 2, 3 and so on, where each number up to the greatest is printed.
use Rattle.std.proofs.Common.{◌≡◌, ℕ, zero, suc, ◌+◌, ◌<◌, ◌≤◌, ◌⊎◌, inl, inr, List, [], ◌∷◌, length, map, Bool, true, false, Option, Some, None, refl, sym, ap, ◌∙◌, subst, arith}
use Rattle.std.specs.Prelude.{◌==◌, ◌||◌, cond, filter_map, max, IfSome}
use Rattle.std.specs.List.{list_any, cons_option}
use Rattle.std.proofs.lemmas.Bool.{or_parts}
use Rattle.std.proofs.lemmas.Bool.Decides.{Decides-eqb, nat_tests}
use Rattle.hg_base.specs.Lists.{EachAfter, greatest, numbers_from, onto}
use Rattle.hg_base.specs.History.{Commit, Group, History, EachGroup, IsGroup}
use Rattle.hg_base.specs.Conflicts.{target}
use Rattle.hg_base.specs.Sound.{IsWhole}
use Rattle.hg_base.specs.Transcript.{Said, committed, commits, greatest_commit, group_of, history_of, put_by_session}
use Rattle.hg_base.proofs.ListFacts.{cases}
use Rattle.hg_headline.proofs.Commits.{commits_numbers, picked_onto}
use Rattle.hg_headline.proofs.Numbers.{any_below, any_from_onto}
use Rattle.hg_headline.proofs.Words.{any_onto}
use Rattle.hg_exact.specs.First.{IsFirst, IsFirstCause}

-- a commit number is the next, and a refused write names the first conflict
pub record IsNext (h : History) (earlier : List Said) (now : Said) : Type 0 where
  pub number : IfSome (committed now) (λ c. c ≡ suc (greatest_commit earlier))
  pub cause : IfSome (target now.statement) (λ r. IsFirstCause h earlier now r now.reply.answer)

-- ---- each number is printed

no_commits : (n : ℕ) (ps : List (ℕ × Commit)) → list_any (λ k. k == n) (map (λ (p : ℕ × Commit). p.0) ps) ≡ false → group_of ps n ≡ []
no_commits n [] e = refl
no_commits n (p ∷ ps) e =
    let parts = or_parts (p.0 == n) (list_any (λ k. k == n) (map (λ (q : ℕ × Commit). q.0) ps)) e in
    ap (λ b. cond b (put_by_session p.1 (group_of ps n)) (group_of ps n)) parts.0 ∙ no_commits n ps parts.1

some_group : (f : ℕ → Group) (first many n : ℕ) → EachGroup IsGroup first (map f (numbers_from first many)) → first ≤ n → n < first + many → 0 < length (f n)
some_group f first zero n h a b = absurd (omega (arith, a, b))
some_group f first (suc many) n h a b = cases (first == n)
    (λ q. subst (λ m. 0 < length (f m)) ((Decides-eqb first n).0 q) h.0.some)
    (λ q. some_group f (suc first) many n h.1 (grind (arith, nat_tests)) (omega (arith, b)))

is_printed : (all : List Said) → IsWhole all → (n : ℕ) → 1 ≤ n → n ≤ greatest_commit all → list_any (λ k. k == n) (filter_map committed all) ≡ true
is_printed all whole n a b = cases (list_any (λ k. k == n) (filter_map committed all)) (λ e. e)
    (λ e.
    let none : group_of (commits all) n ≡ [] = no_commits n (commits all) (ap (list_any (λ k. k == n)) (commits_numbers [] all) ∙ e) in
    let some : 0 < length (group_of (commits all) n) = some_group (group_of (commits all)) 1 (greatest_commit all) n whole.history a (omega (arith, b)) in
    absurd (let bad : length (group_of (commits all) n) ≡ 0 = ap length none in omega (arith, some, bad)))

-- ---- so the next is one more

abbrev Ascends : List Said → Said → Type 0
Ascends earlier now = IfSome (committed now) (λ c. greatest_commit earlier < c)

-- no number of the later lines is at or below one that is at most the greatest before
pub none_later : (n : ℕ) (earlier rest : List Said) → n ≤ greatest_commit earlier → EachAfter Ascends earlier rest → list_any (λ k. k == n) (filter_map committed rest) ≡ false
none_later n earlier [] k h = refl
none_later n earlier (x ∷ rest) k h = go (committed x) h.0 (λ l. none_later n (x ∷ earlier) rest l h.1) refl
  where
    go : (o : Option ℕ) → IfSome o (λ c. greatest_commit earlier < c) → (n ≤ greatest_commit (x ∷ earlier) → list_any (λ m. m == n) (filter_map committed rest) ≡ false) →
        committed x ≡ o → list_any (λ m. m == n) (cons_option o (filter_map committed rest)) ≡ false
    go None f later e = later (subst (λ q. n ≤ greatest (cons_option q (filter_map committed earlier))) (sym e) k)
    go (Some c) f later e =
        let differs : (c == n) ≡ false = (let l : greatest_commit earlier < c = f in grind (arith, nat_tests)) in
        ap (λ b. b || list_any (λ m. m == n) (filter_map committed rest)) differs ∙ later (subst (λ q. n ≤ greatest (cons_option q (filter_map committed earlier))) (sym e) (over c))
      where
        over : (d : ℕ) → n ≤ max d (greatest (filter_map committed earlier))
        over d = omega (arith, k)

number_next : (all earlier : List Said) (now : Said) (rest : List Said) (c : ℕ) → onto all [] ≡ onto rest (now ∷ earlier) → IsWhole all → c ≤ greatest_commit all →
    committed now ≡ Some c → greatest_commit earlier < c → EachAfter Ascends (now ∷ earlier) rest → c ≡ suc (greatest_commit earlier)
number_next all earlier now rest c is whole most e l later = cases (suc (greatest_commit earlier) == c)
    (λ q. sym ((Decides-eqb (suc (greatest_commit earlier)) c).0 q))
    (λ q.
    let g : ℕ = greatest_commit earlier in
    let less : suc g < c = grind (arith, nat_tests) in
    absurd (nowhere (suc g) less (omega arith) (there (suc g) (is_printed all whole (suc g) (omega arith) (omega (arith, less, most))))))
  where
    in_onto : (n : ℕ) (xs es : List ℕ) → list_any (λ k. k == n) xs ≡ true → list_any (λ k. k == n) (onto xs es) ≡ true
    in_onto n xs es h = any_from_onto (λ k. k == n) xs es h

    there : (n : ℕ) → list_any (λ k. k == n) (filter_map committed all) ≡ true →
        (list_any (λ k. k == n) (filter_map committed rest) ≡ true) ⊎ (list_any (λ k. k == n) (filter_map committed (now ∷ earlier)) ≡ true)
    there n h = any_onto (λ k. k == n) (filter_map committed rest) (filter_map committed (now ∷ earlier))
        (sym (ap (list_any (λ k. k == n)) (sym (picked_onto committed all []) ∙ ap (filter_map committed) is ∙ picked_onto committed rest (now ∷ earlier))) ∙ in_onto n (filter_map committed all) [] h)

    at_now : greatest_commit (now ∷ earlier) ≡ max c (greatest_commit earlier)
    at_now = ap (λ o. greatest (cons_option o (filter_map committed earlier))) e

    nowhere : (n : ℕ) → n < c → greatest_commit earlier < n → (list_any (λ k. k == n) (filter_map committed rest) ≡ true) ⊎ (list_any (λ k. k == n) (filter_map committed (now ∷ earlier)) ≡ true) → ⊥
    nowhere n a b (inl h) = let none = none_later n (now ∷ earlier) rest (subst (λ m. n ≤ m) (sym at_now) (omega (arith, a))) later in let bad : true ≡ false = sym h ∙ none in cc
    nowhere n a b (inr h) =
        let here : list_any (λ k. k == n) (c ∷ filter_map committed earlier) ≡ true = sym (ap (λ o. list_any (λ k. k == n) (cons_option o (filter_map committed earlier))) e) ∙ h in
        let differs : (c == n) ≡ false = grind (arith, nat_tests) in
        let k : n ≤ greatest_commit earlier = any_below n (filter_map committed earlier) (sym (ap (λ x. x || list_any (λ m. m == n) (filter_map committed earlier)) differs) ∙ here) in
        omega (arith, b, k)

most_all : (ns : List ℕ) (n : ℕ) → list_any (λ k. k == n) ns ≡ true → n ≤ greatest ns
most_all ns n h = any_below n ns h

next_from : (h : History) (all earlier rest : List Said) → onto all [] ≡ onto rest earlier → IsWhole all →
    ((c : ℕ) → list_any (λ k. k == c) (filter_map committed rest) ≡ true → c ≤ greatest_commit all) → EachAfter (IsFirst h) earlier rest → EachAfter Ascends earlier rest →
    EachAfter (IsNext h) earlier rest
next_from h all earlier [] is whole most first up = tt
next_from h all earlier (x ∷ rest) is whole most first up = (
  record { number = go (committed x) refl up.0; cause = first.0.cause },
  next_from h all (x ∷ earlier) rest is whole (λ c k. most c (later c k)) first.1 up.1,
)
  where
    or_keeps : (a b : Bool) → b ≡ true → (a || b) ≡ true
    or_keeps true b e = refl
    or_keeps false b e = e

    same : (n : ℕ) → (n == n) ≡ true
    same n = (Decides-eqb n n).1 refl

    later : (c : ℕ) → list_any (λ k. k == c) (filter_map committed rest) ≡ true → list_any (λ k. k == c) (filter_map committed (x ∷ rest)) ≡ true
    later c k = one (committed x)
      where
        one : (o : Option ℕ) → list_any (λ m. m == c) (cons_option o (filter_map committed rest)) ≡ true
        one None = k
        one (Some d) = or_keeps (d == c) (list_any (λ m. m == c) (filter_map committed rest)) k

    go : (o : Option ℕ) → committed x ≡ o → IfSome o (λ c. greatest_commit earlier < c) → IfSome o (λ c. c ≡ suc (greatest_commit earlier))
    go None e f = tt
    go (Some c) e f = number_next all earlier x rest c is whole (most c (ap (λ o. list_any (λ k. k == c) (cons_option o (filter_map committed rest))) e ∙
        ap (λ b. b || list_any (λ k. k == c) (filter_map committed rest)) (same c))) e f up.1

ups : (h : History) (earlier rest : List Said) → EachAfter (IsFirst h) earlier rest → EachAfter Ascends earlier rest
ups h earlier [] f = tt
ups h earlier (x ∷ rest) f = (f.0.number, ups h (x ∷ earlier) rest f.1)

pub all_next : (all : List Said) → IsWhole all → EachAfter (IsFirst (history_of all)) [] all → EachAfter (IsNext (history_of all)) [] all
all_next all whole first = next_from (history_of all) all [] all refl whole (λ c k. any_below c (filter_map committed all) k) first (ups (history_of all) [] all first)
