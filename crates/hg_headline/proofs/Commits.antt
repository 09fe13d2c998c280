-- The history that is printed has, session by session, the commits of the engine's.
use Rattle.std.proofs.Common.{◌≡◌, ℕ, zero, suc, ◌+◌, ◌<◌, ◌≤◌, ◌⊎◌, inl, inr, List, [], ◌∷◌, length, map, Bool, true, false, Option, Some, None, refl, sym, ap, ◌∙◌, subst, arith}
use Rattle.std.specs.Prelude.{◌==◌, ◌&&◌, filter, filter_map, cond, if◌then◌else◌, nat_lt, max, option_map, IsSome}
use Rattle.std.specs.List.{cons_option}
use Rattle.std.proofs.lemmas.Bool.Decides.{Decides-eqb, nat_tests}
use Rattle.hg_base.specs.Lists.{Each, numbers_from, greatest, onto}
use Rattle.hg_base.specs.History.{Write, Commit, Group, History, EachGroup, IsGroup, IsHistory, group_from, group_at, image_in, same_rid}
use Rattle.hg_base.specs.Transcript.{Said, committed, commit_by, commits, commits_from, greatest_commit, group_of, put_by_session, history_of, stored, stored_in, is_of}
use Rattle.hg_base.specs.Transcript.{numbers_in as printed_numbers}
use Rattle.hg_base.specs.declared.rid.Rid.{Rid}
use Rattle.hg_base.proofs.ListFacts.{cases, each_keeps}
use Rattle.hg_core.specs.Judged.{of_session}
use Rattle.hg_headline.proofs.Words.{same_number, differs, true_false, cons_is_not_nil, equal_both}
use Rattle.hg_headline.proofs.Same.{SameGroups, first_there}
use Rattle.hg_headline.proofs.Ties.{pick}

-- ---- a group by session

pub put_pick : (c : Commit) (g : Group) (j : ℕ) → of_session j (put_by_session c g) ≡ cond (c.session == j) (c ∷ of_session j g) (of_session j g)
put_pick c [] j = refl
put_pick c (d ∷ ds) j = go (nat_lt d.session c.session) refl (put_pick c ds j)
  where
    swap : (a b : Bool) (xs : Group) → (a ≡ true → b ≡ true → ⊥) → cond a (d ∷ cond b (c ∷ xs) xs) (cond b (c ∷ xs) xs) ≡ cond b (c ∷ cond a (d ∷ xs) xs) (cond a (d ∷ xs) xs)
    swap true true xs no_both = absurd (no_both refl refl)
    swap true false xs no_both = refl
    swap false true xs no_both = refl
    swap false false xs no_both = refl

    apart : nat_lt d.session c.session ≡ true → (d.session == j) ≡ true → (c.session == j) ≡ true → ⊥
    apart less e f = grind (arith, nat_tests)

    go : (b : Bool) → nat_lt d.session c.session ≡ b → of_session j (put_by_session c ds) ≡ cond (c.session == j) (c ∷ of_session j ds) (of_session j ds) →
        of_session j (if b then d ∷ put_by_session c ds else c ∷ d ∷ ds) ≡ cond (c.session == j) (c ∷ of_session j (d ∷ ds)) (of_session j (d ∷ ds))
    go true less ih = ap (λ xs. cond (d.session == j) (d ∷ xs) xs) ih ∙ swap (d.session == j) (c.session == j) (of_session j ds) (λ e f. grind (arith, nat_tests))
    go false less ih = refl

pub group_pick : (ps : List (ℕ × Commit)) (n j : ℕ) → of_session j (group_of ps n) ≡ filter_map (pick n j) ps
group_pick [] n j = refl
group_pick (p ∷ ps) n j = go (p.0 == n) (group_pick ps n j)
  where
    both : (a : Bool) (xs ys : Group) → xs ≡ ys → cond a (p.1 ∷ xs) xs ≡ cons_option (if a && true then Some p.1 else None) ys
    both true xs ys e = ap (λ zs. p.1 ∷ zs) e
    both false xs ys e = e

    none : (a : Bool) (xs ys : Group) → xs ≡ ys → xs ≡ cons_option (if a && false then Some p.1 else None) ys
    none true xs ys e = e
    none false xs ys e = e

    go : (b : Bool) → of_session j (group_of ps n) ≡ filter_map (pick n j) ps → of_session j (if b then put_by_session p.1 (group_of ps n) else group_of ps n) ≡ cons_option
        (if (p.1.session == j) && b then Some p.1 else None) (filter_map (pick n j) ps)
    go true ih = put_pick p.1 (group_of ps n) j ∙ both (p.1.session == j) (of_session j (group_of ps n)) (filter_map (pick n j) ps) ih
    go false ih = none (p.1.session == j) (of_session j (group_of ps n)) (filter_map (pick n j) ps) ih

pub plus_zero : (n : ℕ) → n + zero ≡ n
plus_zero n = omega arith

pub plus_suc : (n i : ℕ) → n + suc i ≡ suc n + i
plus_suc n i = omega arith

-- ---- the groups of a history by number

pub group_here : (n : ℕ) (g : Group) (gs : History) → group_from n (g ∷ gs) n ≡ g
group_here n g gs = ap (λ b. if b then g else group_from (suc n) gs n) (same_number n)

pub group_later : (n i : ℕ) (g : Group) (gs : History) → group_from n (g ∷ gs) (n + suc i) ≡ group_from (suc n) gs (suc n + i)
group_later n i g gs = ap (λ b. if b then g else group_from (suc n) gs (n + suc i)) (differs n (n + suc i) (omega arith)) ∙ ap (group_from (suc n) gs) (plus_suc n i)

pub groups_pair : (ps : List (ℕ × Commit)) (gs : History) (n : ℕ) → ((i j : ℕ) → of_session j (group_from n gs (n + i)) ≡ of_session j (group_of ps (n + i))) →
    SameGroups gs (map (group_of ps) (numbers_from n (length gs)))
groups_pair ps [] n f = tt
groups_pair ps (g ∷ gs) n f = (
  λ j. ap (of_session j) (sym (group_here n g gs) ∙ ap (group_from n (g ∷ gs)) (sym (plus_zero n))) ∙ f zero j ∙ ap (λ m. of_session j (group_of ps m)) (plus_zero n),
  groups_pair ps gs (suc n) (λ i j. ap (of_session j) (sym (group_later n i g gs)) ∙ f (suc i) j ∙ ap (λ m. of_session j (group_of ps m)) (plus_suc n i)),
)

-- a number is that of a group, or has no commits
pub group_within : (first : ℕ) (h : History) (n : ℕ) → ((first ≤ n) × (n < first + length h)) ⊎ (group_from first h n ≡ [])
group_within first [] n = inr refl
group_within first (g ∷ gs) n = cases (first == n)
    (λ e. let same : first ≡ n = (Decides-eqb first n).0 e in inl (omega (arith, same), omega (arith, same)))
    (λ e. go e (group_within (suc first) gs n))
  where
    go : (first == n) ≡ false → ((suc first ≤ n) × (n < suc first + length gs)) ⊎ (group_from (suc first) gs n ≡ []) →
        ((first ≤ n) × (n < first + suc (length gs))) ⊎ (group_from first (g ∷ gs) n ≡ [])
    go e (inl k) = let a : suc first ≤ n = k.0 in let b : n < suc first + length gs = k.1 in inl (omega (arith, a), omega (arith, b))
    go e (inr k) = inr (ap (λ b. if b then g else group_from (suc first) gs n) e ∙ k)

-- each group of a history has a commit
pub group_some : (m : ℕ) (h : History) (i : ℕ) → EachGroup IsGroup m h → i < length h → 0 < length (group_from m h (m + i))
group_some m [] i s k = absurd (omega (arith, k))
group_some m (g ∷ gs) zero s k = subst (λ (f : Group). 0 < length f) (sym (ap (group_from m (g ∷ gs)) (plus_zero m) ∙ group_here m g gs)) s.0.some
group_some m (g ∷ gs) (suc i) s k = subst (λ (f : Group). 0 < length f) (sym (group_later m i g gs)) (group_some (suc m) gs i s.1 (omega (arith, k)))

-- ---- how many groups

pub commits_numbers : (earlier xs : List Said) → map (λ p. p.0) (commits_from earlier xs) ≡ filter_map committed xs
commits_numbers earlier [] = refl
commits_numbers earlier (x ∷ xs) = go (committed x) (commits_numbers (x ∷ earlier) xs)
  where
    go : (o : Option ℕ) → map (λ p. p.0) (commits_from (x ∷ earlier) xs) ≡ filter_map committed xs →
        map (λ p. p.0) (cons_option (option_map (λ c. (c, commit_by earlier x)) o) (commits_from (x ∷ earlier) xs)) ≡ cons_option o (filter_map committed xs)
    go None e = e
    go (Some c) e = ap (λ ns. c ∷ ns) e

pub rest_nil : {X : Type 0} (o : Option X) (xs : List X) → cons_option o xs ≡ [] → xs ≡ []
rest_nil None xs e = e
rest_nil (Some x) xs e = absurd (cons_is_not_nil x xs e)

pub picked_itself : (p : ℕ × Commit) → pick p.0 p.1.session p ≡ Some p.1
picked_itself p = ap (λ b. if b && (p.0 == p.0) then Some p.1 else None) (same_number p.1.session) ∙ ap (λ b. if b then Some p.1 else None) (same_number p.0)

-- what holds of each number of which a commit is picked
pub each_pick : (Q : ℕ → Type 0) (ps : List (ℕ × Commit)) → ((n j : ℕ) → (filter_map (pick n j) ps ≡ [] → ⊥) → Q n) → Each (λ p. Q p.0) ps
each_pick Q [] f = tt
each_pick Q (p ∷ ps) f = (
  f p.0 p.1.session (λ e. cons_is_not_nil p.1 (filter_map (pick p.0 p.1.session) ps) (ap (λ o. cons_option o (filter_map (pick p.0 p.1.session) ps)) (sym (picked_itself p)) ∙ e)),
  each_pick Q ps (λ n j g. f n j (λ e. g (rest_nil (pick n j p) (filter_map (pick n j) ps) e))),
)

pub greatest_within : (n : ℕ) (ns : List ℕ) → Each (λ m. m ≤ n) ns → greatest ns ≤ n
greatest_within n [] h = omega arith
greatest_within n (m ∷ ns) h = let a : m ≤ n = h.0 in let b : greatest ns ≤ n = greatest_within n ns h.1 in omega (arith, a, b)

pub each_map : {X Y : Type 0} (P : Y → Type 0) (f : X → Y) (xs : List X) → Each (λ x. P (f x)) xs → Each P (map f xs)
each_map P f [] h = tt
each_map P f (x ∷ xs) h = (h.0, each_map P f xs h.1)

pub max_keeps : (n a b : ℕ) → n ≤ b → n ≤ max a b
max_keeps n a b h = omega (arith, h)

pub max_has : (n a b : ℕ) → a ≡ n → n ≤ max a b
max_has n a b e = omega (arith, e)

pub pick_other : (n j : ℕ) (p : ℕ × Commit) → (p.0 == n) ≡ false → pick n j p ≡ None
pick_other n j p e = ap (λ b. if (p.1.session == j) && b then Some p.1 else None) e ∙ none (p.1.session == j)
  where
    none : (b : Bool) → (if b && false then Some p.1 else None) ≡ None
    none true = refl
    none false = refl

pub picked_below : (n j : ℕ) (ps : List (ℕ × Commit)) → (filter_map (pick n j) ps ≡ [] → ⊥) → n ≤ greatest (map (λ p. p.0) ps)
picked_below n j [] f = absurd (f refl)
picked_below n j (p ∷ ps) f = cases (p.0 == n)
    (λ e. max_has n p.0 (greatest (map (λ q. q.0) ps)) ((Decides-eqb p.0 n).0 e))
    (λ e. max_keeps n p.0 (greatest (map (λ q. q.0) ps)) (picked_below n j ps (λ k. f (ap (λ o. cons_option o (filter_map (pick n j) ps)) (pick_other n j p e) ∙ k))))

pub first_picked : (g : Group) → 0 < length g → (P : Type 0) → ((j : ℕ) → (of_session j g ≡ [] → ⊥) → P) → P
first_picked [] k P f = absurd (omega (arith, k))
first_picked (c ∷ cs) k P f = f c.session (λ e. cons_is_not_nil c (of_session c.session cs) (sym (first_there c cs) ∙ e))

-- each session's commits of each group are the printed ones
abbrev pub Matches : History → List (ℕ × Commit) → Type 0
Matches h ps = (n j : ℕ) → filter_map (pick n j) ps ≡ of_session j (group_at h n)

pub numbers_within : (h : History) (ps : List (ℕ × Commit)) → Matches h ps → Each (λ (p : ℕ × Commit). (1 ≤ p.0) × (p.0 ≤ length h)) ps
numbers_within h ps m = each_pick (λ n. (1 ≤ n) × (n ≤ length h)) ps (λ n j f. go n j f (group_within 1 h n))
  where
    go : (n j : ℕ) → (filter_map (pick n j) ps ≡ [] → ⊥) → ((1 ≤ n) × (n < 1 + length h)) ⊎ (group_at h n ≡ []) → (1 ≤ n) × (n ≤ length h)
    go n j f (inl k) = let b : n < 1 + length h = k.1 in (k.0, omega (arith, b))
    go n j f (inr e) = absurd (f (m n j ∙ ap (of_session j) e))

pub all_within : (h : History) (ps : List (ℕ × Commit)) → IsHistory h → Matches h ps → length h ≤ greatest (map (λ p. p.0) ps)
all_within [] ps i m = omega arith
all_within (g ∷ gs) ps i m = first_picked (group_at (g ∷ gs) (1 + length gs)) (group_some 1 (g ∷ gs) (length gs) i (omega arith)) (suc (length gs) ≤ greatest (map (λ p. p.0) ps))
    (λ j f. one_less (length gs) (greatest (map (λ p. p.0) ps)) (picked_below (1 + length gs) j ps (λ e. f (sym (m (1 + length gs) j) ∙ e))))
  where
    one_less : (k top : ℕ) → 1 + k ≤ top → suc k ≤ top
    one_less k top q = omega (arith, q)

pub greatest_is : (h : History) (all : List Said) → IsHistory h → Matches h (commits all) → length h ≡ greatest_commit all
greatest_is h all i m = equal_both (length h) (greatest_commit all)
    (subst (λ ns. length h ≤ greatest ns) (commits_numbers [] all) (all_within h (commits all) i m))
    (subst (λ ns. greatest ns ≤ length h) (commits_numbers [] all)
    (greatest_within (length h) (map (λ p. p.0) (commits all))
    (each_map (λ n. n ≤ length h) (λ p. p.0) (commits all) (each_keeps _ _ (λ p k. k.1) (commits all) (numbers_within h (commits all) m)))))

pub same_printed : (h : History) (all : List Said) → IsHistory h → Matches h (commits all) → SameGroups h (history_of all)
same_printed h all i m =
    subst (λ n. SameGroups h (map (group_of (commits all)) (numbers_from 1 n))) (greatest_is h all i m)
    (groups_pair (commits all) h 1 (λ n j. sym (m (1 + n) j) ∙ sym (group_pick (commits all) (1 + n) j)))

-- ---- lines newest first

pub filter_onto : {X : Type 0} (q : X → Bool) (xs es : List X) → filter q (onto xs es) ≡ onto (filter q xs) (filter q es)
filter_onto q [] es = refl
filter_onto q (x ∷ xs) es = filter_onto q xs (x ∷ es) ∙ go (q x)
  where
    go : (b : Bool) → onto (filter q xs) (cond b (x ∷ filter q es) (filter q es)) ≡ onto (cond b (x ∷ filter q xs) (filter q xs)) (filter q es)
    go true = refl
    go false = refl

pub picked_onto : {X Y : Type 0} (f : X → Option Y) (xs es : List X) → filter_map f (onto xs es) ≡ onto (filter_map f xs) (filter_map f es)
picked_onto f [] es = refl
picked_onto f (x ∷ xs) es = picked_onto f xs (x ∷ es) ∙ go (f x)
  where
    go : (o : Option _) → onto (filter_map f xs) (cons_option o (filter_map f es)) ≡ onto (cons_option o (filter_map f xs)) (filter_map f es)
    go None = refl
    go (Some buckets) = refl

-- what a transaction writes and commits, by all lines in either order
pub stored_onto : (j x : ℕ) (xs : List Said) → stored_in j x (onto xs []) ≡ onto (stored_in j x xs) []
stored_onto j x xs = ap (filter_map stored) (filter_onto (is_of j x) xs []) ∙ picked_onto stored (filter (is_of j x) xs) []

pub printed_onto : (j x : ℕ) (xs : List Said) → printed_numbers j x (onto xs []) ≡ onto (printed_numbers j x xs) []
printed_onto j x xs = ap (filter_map committed) (filter_onto (is_of j x) xs []) ∙ picked_onto committed (filter (is_of j x) xs) []

-- a record that is written in a list put before another is written in either
pub image_onto : (r : Rid) (xs es : List Write) → IsSome (image_in r (onto xs es)) → IsSome (image_in r xs) ⊎ IsSome (image_in r es)
image_onto r [] es s = inr s
image_onto r (w ∷ ws) es s = go (same_rid w.rid r) (image_onto r ws (w ∷ es) s)
  where
    go : (b : Bool) → IsSome (image_in r ws) ⊎ IsSome (if b then Some w.image else image_in r es) → IsSome (if b then Some w.image else image_in r ws) ⊎ IsSome (image_in r es)
    go true k = inl refl
    go false k = k

pub image_of_onto : (r : Rid) (xs : List Write) → IsSome (image_in r (onto xs [])) → IsSome (image_in r xs)
image_of_onto r xs s = go (image_onto r xs [] s)
  where
    go : IsSome (image_in r xs) ⊎ (false ≡ true) → IsSome (image_in r xs)
    go (inl k) = k
    go (inr e) = absurd (true_false (sym e))
