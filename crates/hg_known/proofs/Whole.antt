-- The printed commits give a history exactly where each is fit, no two clash, and no number is left out.
use Rattle.std.proofs.Common.{◌≡◌, ℕ, zero, suc, ◌+◌, ◌<◌, ◌≤◌, List, [], ◌∷◌, ◌++◌, length, map, Bool, true, false, Option, Some, None, refl, sym, ap, ◌∙◌, subst, arith}
use Rattle.std.specs.Prelude.{◌==◌, ◌||◌, filter, not, filter_map, cond, option_map, IsSome, nat_lt}
use Rattle.std.specs.List.{list_any, cons_option}
use Rattle.std.specs.Option.{option_or}
use Rattle.std.proofs.lemmas.Bool.Decides.{Decides-eqb}
use Rattle.std.proofs.lemmas.Bool.{ltb-true, ltb-false}
use Rattle.hg_base.specs.declared.rid.Rid.{Rid}
use Rattle.hg_base.specs.declared.image.Image.{Image}
use Rattle.hg_base.specs.Lists.{Each, numbers_from, greatest}
use Rattle.hg_base.specs.History.{Write, Commit, Group, EachGroup, IsCommit, IsGroup, NoneTwice, group_from, group_at, group_image, rids_of, is_among, image_in, same_rid}
use Rattle.hg_base.specs.Transcript.{Said, committed, commit_by, commits, commits_from, greatest_commit, history_of, put_by_session, group_of, last_images, own_writes}
use Rattle.hg_base.specs.Sound.{IsWhole}
use Rattle.hg_base.proofs.ListFacts.{cases, false_true, each_keeps}
use Rattle.hg_base.proofs.HistoryFacts.{same_rid_equal}
use Rattle.hg_base.proofs.Growth.{commits_below}
use Rattle.hg_known.specs.Commits.{IsFit, AreOfTwo, AllApart, AreCommits, has_number, image_of}
use Rattle.hg_known.proofs.Pairs.{OwnOnce, InPairs, once_pairs, pairs_sessions, pairs_rids, to_pairs, from_pairs, each_group, group_each, or_left, or_right, each_pairs}
use Rattle.hg_known.proofs.Groups.{below_first}

-- ---- no record stands twice in what a transaction commits

pub filter_none : (q r : Rid) (ws : List Write) → is_among q (rids_of ws) ≡ false → is_among q (rids_of (filter (λ v. not (same_rid r v.rid)) ws)) ≡ false
filter_none q r [] e = refl
filter_none q r (w ∷ ws) e = go (same_rid r w.rid) (filter_none q r ws (or_right (same_rid q w.rid) (is_among q (rids_of ws)) e))
  where
    go : (b : Bool) → is_among q (rids_of (filter (λ v. not (same_rid r v.rid)) ws)) ≡ false →
        is_among q (rids_of (cond (not b) (w ∷ filter (λ v. not (same_rid r v.rid)) ws) (filter (λ v. not (same_rid r v.rid)) ws))) ≡ false
    go true k = k
    go false k = ap (λ b. b || is_among q (rids_of (filter (λ v. not (same_rid r v.rid)) ws))) (or_left (same_rid q w.rid) (is_among q (rids_of ws)) e) ∙ k

pub filter_once : (r : Rid) (ws : List Write) → NoneTwice (rids_of ws) → NoneTwice (rids_of (filter (λ v. not (same_rid r v.rid)) ws))
filter_once r [] h = tt
filter_once r (w ∷ ws) h = go (same_rid r w.rid) (filter_once r ws h.1)
  where
    go : (b : Bool) → NoneTwice (rids_of (filter (λ v. not (same_rid r v.rid)) ws)) →
        NoneTwice (rids_of (cond (not b) (w ∷ filter (λ v. not (same_rid r v.rid)) ws) (filter (λ v. not (same_rid r v.rid)) ws)))
    go true k = k
    go false k = (filter_none w.rid r ws h.0, k)

pub filtered_out : (r : Rid) (ws : List Write) → is_among r (rids_of (filter (λ v. not (same_rid r v.rid)) ws)) ≡ false
filtered_out r [] = refl
filtered_out r (w ∷ ws) = go (same_rid r w.rid) refl (filtered_out r ws)
  where
    go : (b : Bool) → same_rid r w.rid ≡ b → is_among r (rids_of (filter (λ v. not (same_rid r v.rid)) ws)) ≡ false →
        is_among r (rids_of (cond (not b) (w ∷ filter (λ v. not (same_rid r v.rid)) ws) (filter (λ v. not (same_rid r v.rid)) ws))) ≡ false
    go true e k = k
    go false e k = ap (λ b. b || is_among r (rids_of (filter (λ v. not (same_rid r v.rid)) ws))) e ∙ k

pub last_once : (ws : List Write) → NoneTwice (rids_of (last_images ws))
last_once [] = tt
last_once (w ∷ ws) = (filtered_out w.rid (last_images ws), filter_once w.rid (last_images ws) (last_once ws))

-- the last image of a record is what is committed of it
pub filter_image : (q r : Rid) (ws : List Write) → same_rid r q ≡ false → image_in q (filter (λ v. not (same_rid r v.rid)) ws) ≡ image_in q ws
filter_image q r [] e = refl
filter_image q r (w ∷ ws) e = go (same_rid r w.rid) refl (filter_image q r ws e)
  where
    go : (b : Bool) → same_rid r w.rid ≡ b → image_in q (filter (λ v. not (same_rid r v.rid)) ws) ≡ image_in q ws →
        image_in q (cond (not b) (w ∷ filter (λ v. not (same_rid r v.rid)) ws) (filter (λ v. not (same_rid r v.rid)) ws)) ≡ cond (same_rid w.rid q) (Some w.image) (image_in q ws)
    go true same k = k ∙ sym (ap (λ b. cond b (Some w.image) (image_in q ws)) (ap (λ x. same_rid x q) (sym (same_rid_equal r w.rid same)) ∙ e))
    go false other k = ap (cond (same_rid w.rid q) (Some w.image)) k

pub last_image_in : (q : Rid) (ws : List Write) → image_in q (last_images ws) ≡ image_in q ws
last_image_in q [] = refl
last_image_in q (w ∷ ws) = go (same_rid w.rid q) refl (last_image_in q ws)
  where
    go : (b : Bool) → same_rid w.rid q ≡ b → image_in q (last_images ws) ≡ image_in q ws →
        cond b (Some w.image) (image_in q (filter (λ v. not (same_rid w.rid v.rid)) (last_images ws))) ≡ cond b (Some w.image) (image_in q ws)
    go true e k = refl
    go false e k = filter_image q w.rid (last_images ws) e ∙ k

-- each commit that is printed writes no record twice
pub each_of : {X : Type 0} (P : X → Type 0) (o : Option X) (xs : List X) → ((x : X) → o ≡ Some x → P x) → Each P xs → Each P (cons_option o xs)
each_of P None xs f h = h
each_of P (Some x) xs f h = (f x refl, h)

pub commits_once : (earlier xs : List Said) → Each (λ p. OwnOnce p.1) (commits_from earlier xs)
commits_once earlier [] = tt
commits_once earlier (now ∷ later) = go (committed now) (commits_once (now ∷ earlier) later)
  where
    go : (o : Option ℕ) → Each (λ p. OwnOnce p.1) (commits_from (now ∷ earlier) later) →
        Each (λ p. OwnOnce p.1) (cons_option (option_map (λ c. (c, commit_by earlier now)) o) (commits_from (now ∷ earlier) later))
    go None h = h
    go (Some c) h = (last_once (own_writes (now ∷ earlier) now), h)

pub commits_numbers : (earlier xs : List Said) → map (λ p. p.0) (commits_from earlier xs) ≡ filter_map committed xs
commits_numbers earlier [] = refl
commits_numbers earlier (x ∷ xs) = go (committed x) (commits_numbers (x ∷ earlier) xs)
  where
    go : (o : Option ℕ) → map (λ p. p.0) (commits_from (x ∷ earlier) xs) ≡ filter_map committed xs →
        map (λ p. p.0) (cons_option (option_map (λ c. (c, commit_by earlier x)) o) (commits_from (x ∷ earlier) xs)) ≡ cons_option o (filter_map committed xs)
    go None e = e
    go (Some c) e = ap (λ ns. c ∷ ns) e

pub greatest_number : (all : List Said) → greatest (map (λ p. p.0) (commits all)) ≡ greatest_commit all
greatest_number all = ap greatest (commits_numbers [] all)

-- ---- groups by number

pub numbered_to : (P : ℕ → Group → Type 0) (f : ℕ → Group) (first many : ℕ) → ((n : ℕ) → first ≤ n → n < first + many → P n (f n)) → EachGroup P first (map f (numbers_from first many))
numbered_to P f first zero h = tt
numbered_to P f first (suc many) h =
    let low : first < first + suc many = omega arith in
    let same : first ≤ first = omega arith in
    (h first same low, numbered_to P f (suc first) many (λ n j k. let a : first ≤ n = omega (arith, j) in let b : n < first + suc many = omega (arith, k) in h n a b))

pub numbered_of : (P : ℕ → Group → Type 0) (f : ℕ → Group) (first many : ℕ) → EachGroup P first (map f (numbers_from first many)) → (n : ℕ) → first ≤ n → n < first + many → P n (f n)
numbered_of P f first zero h n j k = absurd (omega (arith, j, k))
numbered_of P f first (suc many) h n j k = cases (first == n)
    (λ same. subst (λ m. P m (f m)) ((Decides-eqb first n).0 same) h.0)
    (λ other. let differs : first ≡ n → ⊥ = (λ e. false_true (sym other ∙ (Decides-eqb first n).1 e)) in
    let over : suc first ≤ n = above first n j differs in
    let below : n < suc first + many = omega (arith, k) in
    numbered_of P f (suc first) many h.1 n over below)
  where
    above : (a b : ℕ) → a ≤ b → (a ≡ b → ⊥) → suc a ≤ b
    above a b j f = grind (arith, j, f)

-- no commit of a number
pub group_none : (ps : List (ℕ × Commit)) (n : ℕ) → list_any (λ p. p.0 == n) ps ≡ false → group_of ps n ≡ []
group_none [] n e = refl
group_none (p ∷ ps) n e = ap (λ b. cond b (put_by_session p.1 (group_of ps n)) (group_of ps n)) (or_left (p.0 == n) (list_any (λ p. p.0 == n) ps) e) ∙
    group_none ps n (or_right (p.0 == n) (list_any (λ p. p.0 == n) ps) e)

pub put_some : (c : Commit) (g : Group) → 0 < length (put_by_session c g)
put_some c [] = omega arith
put_some c (d ∷ ds) = go (nat_lt d.session c.session)
  where
    go : (b : Bool) → 0 < length (cond b (d ∷ put_by_session c ds) (c ∷ d ∷ ds))
    go true = omega arith
    go false = omega arith

pub group_some : (ps : List (ℕ × Commit)) (n : ℕ) → has_number n ps → 0 < length (group_of ps n)
group_some [] n e = absurd (false_true e)
group_some (p ∷ ps) n e = go (p.0 == n) e (group_some ps n)
  where
    go : (b : Bool) → (b || list_any (λ p. p.0 == n) ps) ≡ true → (has_number n ps → 0 < length (group_of ps n)) → 0 < length (cond b (put_by_session p.1 (group_of ps n)) (group_of ps n))
    go true e f = put_some p.1 (group_of ps n)
    go false e f = f e

pub some_number : (ps : List (ℕ × Commit)) (n : ℕ) → 0 < length (group_of ps n) → has_number n ps
some_number ps n h = cases (list_any (λ p. p.0 == n) ps) (λ e. e) (λ e. absurd (let k : length (group_of ps n) ≡ 0 = ap length (group_none ps n e) in omega (arith, h, k)))

pub none_with : (Q : ℕ → Type 0) (ps : List (ℕ × Commit)) (n : ℕ) → Each (λ p. Q p.0) ps → (Q n → ⊥) → list_any (λ p. p.0 == n) ps ≡ false
none_with Q [] n h f = refl
none_with Q (p ∷ ps) n h f = cases (p.0 == n) (λ same. absurd (f (subst Q ((Decides-eqb p.0 n).0 same) h.0))) (λ other. ap (λ b. b || list_any (λ p. p.0 == n) ps) other ∙ none_with Q ps n h.1 f)

-- ---- from the commits to the history

pub groups_of : (ps : List (ℕ × Commit)) → AreCommits ps → Each (λ p. OwnOnce p.1) ps → (n : ℕ) → 1 ≤ n → n ≤ greatest (map (λ p. p.0) ps) → IsGroup n (group_of ps n)
groups_of ps h o n j k =
    let pairs = to_pairs ps h.apart o n in
    record {
      some = group_some ps n (h.every n j k);
      commits = each_group (IsCommit n) n ps (each_keeps IsFit (λ q. q.0 ≡ n → IsCommit n q.1) (λ q fit e. record { some = fit.some; before = subst (λ m. q.1.at < m) e fit.before }) ps h.fit);
      sessions = pairs_sessions (group_of ps n) pairs;
      rids = pairs_rids (group_of ps n) pairs;
    }

pub whole_of : (all : List Said) → AreCommits (commits all) → IsWhole all
whole_of all h = record {
  numbers = each_keeps IsFit (λ p. 1 ≤ p.0) (λ p fit. fit.number) (commits all) h.fit;
  history = numbered_to IsGroup (group_of (commits all)) 1 (greatest_commit all) (λ n j k. let b : n ≤ greatest_commit all = omega (arith, k) in
      groups_of (commits all) h (commits_once [] all) n j (subst (λ m. n ≤ m) (sym (greatest_number all)) b));
}

-- ---- and back

-- what holds of the commits of each number of a kind holds of each whose number is of that kind
pub each_own : (Q : ℕ → Type 0) (P : ℕ × Commit → Type 0) (ps : List (ℕ × Commit)) → ((n : ℕ) → Q n → Each (λ q. q.0 ≡ n → P q) ps) → Each (λ q. Q q.0) ps → Each P ps
each_own Q P [] f h = tt
each_own Q P (p ∷ ps) f h = ((f p.0 h.0).0 refl, each_own Q P ps (λ n q. (f n q).1) h.1)

abbrev pub IsNumber : List Said → ℕ → Type 0
IsNumber all n = (1 ≤ n) × (n ≤ greatest_commit all)

pub group_at_number : (all : List Said) → IsWhole all → (n : ℕ) → IsNumber all n → IsGroup n (group_of (commits all) n)
group_at_number all h n q = let low : 1 ≤ n = q.0 in let high = q.1 in numbered_of IsGroup (group_of (commits all)) 1 (greatest_commit all) h.history n low (omega (arith, high))

pub numbers_within : (all : List Said) → IsWhole all → Each (λ p. IsNumber all p.0) (commits all)
numbers_within all h = each_pairs (λ p. 1 ≤ p.0) (λ p. p.0 ≤ greatest_commit all) (commits all) h.numbers
    (each_keeps (λ p. p.0 < suc (greatest_commit all)) (λ p. p.0 ≤ greatest_commit all) (λ p k. omega (arith, k)) (commits all) (commits_below [] all))

pub its_number : (Q : ℕ → Type 0) (ps : List (ℕ × Commit)) (n : ℕ) → Each (λ p. Q p.0) ps → has_number n ps → Q n
its_number Q [] n h e = absurd (false_true e)
its_number Q (p ∷ ps) n h e = cases (p.0 == n) (λ same. subst Q ((Decides-eqb p.0 n).0 same) h.0) (λ other. its_number Q ps n h.1 (sym (ap (λ b. b || list_any (λ p. p.0 == n) ps) other) ∙ e))

pub commits_of : (all : List Said) → IsWhole all → AreCommits (commits all)
commits_of all h =
    let ps = commits all in
    let within = numbers_within all h in
    record {
      fit = each_own (IsNumber all) IsFit ps (λ n q. each_keeps (λ p. p.0 ≡ n → IsCommit n p.1) (λ p. p.0 ≡ n → IsFit p)
          (λ p f e. record { number = subst (λ m. 1 ≤ m) (sym e) q.0; some = (f e).some; before = subst (λ m. p.1.at < m) (sym e) (f e).before }) ps
          (group_each (IsCommit n) n ps (group_at_number all h n q).commits)) within;
      apart = from_pairs ps (λ n. cases (list_any (λ p. p.0 == n) ps) (λ e. let g = group_at_number all h n (its_number (IsNumber all) ps n within e) in
          once_pairs (group_of ps n) g.sessions g.rids) (λ e. subst InPairs (sym (group_none ps n e)) tt));
      every = λ n j k. some_number ps n (group_at_number all h n (j, subst (λ m. n ≤ m) (greatest_number all) k)).some;
    }

-- ---- what the groups write

pub or_swap : (a b x : Option Image) → (IsSome a → b ≡ None) → option_or b (option_or a x) ≡ option_or a (option_or b x)
or_swap None b x f = refl
or_swap (Some i) b x f = ap (λ o. option_or o (Some i)) (f refl)

pub put_image : (r : Rid) (c : Commit) (g : Group) → Each (AreOfTwo c) g → group_image r (put_by_session c g) ≡ option_or (image_in r c.images) (group_image r g)
put_image r c [] h = refl
put_image r c (d ∷ ds) h = go (nat_lt d.session c.session) (put_image r c ds h.1)
  where
    go : (b : Bool) → group_image r (put_by_session c ds) ≡ option_or (image_in r c.images) (group_image r ds) →
        group_image r (cond b (d ∷ put_by_session c ds) (c ∷ d ∷ ds)) ≡ option_or (image_in r c.images) (option_or (image_in r d.images) (group_image r ds))
    go true e = ap (option_or (image_in r d.images)) e ∙ or_swap (image_in r c.images) (image_in r d.images) (group_image r ds) (h.0.1 r)
    go false e = refl

pub group_is : (r : Rid) (ps : List (ℕ × Commit)) (n : ℕ) → AllApart ps → group_image r (group_of ps n) ≡ image_of ps r n
group_is r [] n h = refl
group_is r (p ∷ ps) n h = go (p.0 == n) refl (group_is r ps n h.1)
  where
    go : (b : Bool) → (p.0 == n) ≡ b → group_image r (group_of ps n) ≡ image_of ps r n → group_image r (cond b (put_by_session p.1 (group_of ps n)) (group_of ps n)) ≡ cond b
        (option_or (image_in r p.1.images) (image_of ps r n)) (image_of ps r n)
    go true e k = put_image r p.1 (group_of ps n) (each_group (AreOfTwo p.1) n ps (each_keeps _ _ (λ q f same. f ((Decides-eqb p.0 n).0 e ∙ sym same)) ps h.0)) ∙
        ap (option_or (image_in r p.1.images)) k
    go false e k = k

pub or_assoc : (a b x : Option Image) → option_or (option_or a b) x ≡ option_or a (option_or b x)
or_assoc None b x = refl
or_assoc (Some i) b x = refl

-- a commit more
pub image_push : (ps : List (ℕ × Commit)) (p : ℕ × Commit) (r : Rid) (n : ℕ) → image_of (ps ++ p ∷ []) r n ≡ option_or (image_of ps r n) (cond (p.0 == n) (image_in r p.1.images) None)
image_push [] p r n = go (p.0 == n)
  where
    or_none : (o : Option Image) → option_or o None ≡ o
    or_none None = refl
    or_none (Some i) = refl

    go : (b : Bool) → cond b (option_or (image_in r p.1.images) None) None ≡ cond b (image_in r p.1.images) None
    go true = or_none (image_in r p.1.images)
    go false = refl
image_push (q ∷ ps) p r n = go (q.0 == n) (image_push ps p r n)
  where
    go : (b : Bool) → image_of (ps ++ p ∷ []) r n ≡ option_or (image_of ps r n) (cond (p.0 == n) (image_in r p.1.images) None) →
        cond b (option_or (image_in r q.1.images) (image_of (ps ++ p ∷ []) r n)) (image_of (ps ++ p ∷ []) r n) ≡ option_or
        (cond b (option_or (image_in r q.1.images) (image_of ps r n)) (image_of ps r n)) (cond (p.0 == n) (image_in r p.1.images) None)
    go true e = ap (option_or (image_in r q.1.images)) e ∙ sym (or_assoc (image_in r q.1.images) (image_of ps r n) (cond (p.0 == n) (image_in r p.1.images) None))
    go false e = e

-- ---- the groups of the history

pub group_numbered : (f : ℕ → Group) (first many n : ℕ) → first ≤ n → n < first + many → group_from first (map f (numbers_from first many)) n ≡ f n
group_numbered f first zero n j k = absurd (omega (arith, j, k))
group_numbered f first (suc many) n j k = cases (first == n)
    (λ same. ap (λ b. cond b (f first) (group_from (suc first) (map f (numbers_from (suc first) many)) n)) same ∙ ap f ((Decides-eqb first n).0 same))
    (λ other. let differs : first ≡ n → ⊥ = (λ e. false_true (sym other ∙ (Decides-eqb first n).1 e)) in
    let over : suc first ≤ n = above first n j differs in
    let below : n < suc first + many = omega (arith, k) in
    ap (λ b. cond b (f first) (group_from (suc first) (map f (numbers_from (suc first) many)) n)) other ∙ group_numbered f (suc first) many n over below)
  where
    above : (a b : ℕ) → a ≤ b → (a ≡ b → ⊥) → suc a ≤ b
    above a b j f = grind (arith, j, f)

pub group_over : (f : ℕ → Group) (first many n : ℕ) → first + many ≤ n → group_from first (map f (numbers_from first many)) n ≡ []
group_over f first zero n k = refl
group_over f first (suc many) n k = cases (first == n)
    (λ same. absurd (let e : first ≡ n = (Decides-eqb first n).0 same in omega (arith, e, k)))
    (λ other. let over : suc first + many ≤ n = omega (arith, k) in
    ap (λ b. cond b (f first) (group_from (suc first) (map f (numbers_from (suc first) many)) n)) other ∙ group_over f (suc first) many n over)

-- group n of the history is that of the number n
pub history_group : (all : List Said) → Each (λ p. 1 ≤ p.0) (commits all) → (n : ℕ) → group_at (history_of all) n ≡ group_of (commits all) n
history_group all some n = cases (nat_lt 0 n)
    (λ e. let low : 1 ≤ n = ltb-true 0 n e in cases (nat_lt greatest n)
    (λ over. let k : greatest < n = ltb-true greatest n over in
    group_over (group_of ps) 1 greatest n (omega (arith, k)) ∙ sym (group_none ps n (none_with (λ m. m < suc greatest) ps n (commits_below [] all) (λ q. omega (arith, q, k)))))
    (λ within. let k : n ≤ greatest = ltb-false greatest n within in group_numbered (group_of ps) 1 greatest n low (omega (arith, k))))
    (λ e. let z : n ≤ 0 = ltb-false 0 n e in below_first 1 (history_of all) n (omega (arith, z)) ∙ sym (group_none ps n (none_with (λ m. 1 ≤ m) ps n some (λ q. omega (arith, q, z)))))
  where
    ps : List (ℕ × Commit)
    ps = commits all

    greatest : ℕ
    greatest = greatest_commit all

-- what the history's groups write is what the commits do
pub history_writes : (all : List Said) → AreCommits (commits all) → (r : Rid) (n : ℕ) → group_image r (group_at (history_of all) n) ≡ image_of (commits all) r n
history_writes all h r n = ap (group_image r) (history_group all (each_keeps IsFit (λ p. 1 ≤ p.0) (λ p fit. fit.number) (commits all) h.fit) n) ∙ group_is r (commits all) n h.apart
