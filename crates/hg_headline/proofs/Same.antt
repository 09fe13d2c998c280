-- Two histories whose groups have the same commits, session by session: what holds of the one holds of the other.
use Rattle.std.proofs.Common.{◌≡◌, ℕ, suc, ◌<◌, ◌≤◌, ◌⊎◌, inl, inr, List, [], ◌∷◌, length, map, Bool, true, false, Option, Some, None, refl, sym, ap, ◌∙◌, subst, arith}
use Rattle.std.specs.Prelude.{◌==◌, ◌||◌, filter, cond, IsFalse, option_map}
use Rattle.std.specs.List.{list_any, cons_option}
use Rattle.std.specs.Option.{option_or}
use Rattle.std.proofs.lemmas.Bool.Decides.{Decides-eqb}
use Rattle.hg_base.specs.declared.rid.Rid.{Rid}
use Rattle.hg_base.specs.declared.image.Image.{Image}
use Rattle.hg_base.specs.Lists.{Each}
use Rattle.hg_base.specs.History.{Write, Commit, Group, History, EachGroup, IsCommit, IsGroup, IsHistory, NoLostUpdate, NoneTwice, NoNumberTwice, group_rids, rids_of, is_among, image_in}
use Rattle.hg_base.specs.History.{group_image, writes_from, same_rid}
use Rattle.hg_base.proofs.ListFacts.{cases, each_keeps}
use Rattle.hg_core.specs.Judged.{of_session}
use Rattle.hg_core.proofs.Remaining.{left_false as or_left, right_false as or_right, same_rid_sym}
use Rattle.hg_headline.proofs.Words.{true_false, same_number, any_append, cons_is_not_nil, each_cond}
use Rattle.hg_headline.proofs.Disjoint.{Without, twice_right, twice_apart, AreApart, own_apart, all_apart, all_apart_back}

-- the same commits of each session
abbrev pub SameGroup : Group → Group → Type 0
SameGroup g k = (j : ℕ) → of_session j g ≡ of_session j k

abbrev pub SameGroups : History → History → Type 0
SameGroups [] [] = Unit {0}
SameGroups [] (k ∷ ks) = ⊥
SameGroups (g ∷ gs) [] = ⊥
SameGroups (g ∷ gs) (k ∷ ks) = SameGroup g k × SameGroups gs ks

pub each_filter : {X : Type 0} (P : X → Type 0) (p : X → Bool) (xs : List X) → Each P xs → Each P (filter p xs)
each_filter P p [] h = tt
each_filter P p (x ∷ xs) h = each_cond P (p x) x (filter p xs) h.0 (each_filter P p xs h.1)

pub each_less : {X : Type 0} (P : X → Type 0) (b : Bool) (x : X) (xs : List X) → Each P (cond b (x ∷ xs) xs) → Each P xs
each_less P true x xs h = h.1
each_less P false x xs h = h

-- what holds of each commit of each session holds of each
pub each_by_session : (P : Commit → Type 0) (g : Group) → ((j : ℕ) → Each P (of_session j g)) → Each P g
each_by_session P [] h = tt
each_by_session P (c ∷ cs) h = (
  (subst (λ b. Each P (cond b (c ∷ of_session c.session cs) (of_session c.session cs))) (same_number c.session) (h c.session)).0,
  each_by_session P cs (λ j. each_less P (c.session == j) c (of_session j cs) (h j)),
)

pub each_same : (P : Commit → Type 0) (g k : Group) → SameGroup g k → Each P g → Each P k
each_same P g k s h = each_by_session P k (λ j. subst (Each P) (s j) (each_filter P (λ c. c.session == j) g h))

pub same_back : (g k : Group) → SameGroup g k → SameGroup k g
same_back g k s = λ j. sym (s j)

-- ---- one group

pub first_there : (c : Commit) (cs : Group) → of_session c.session (c ∷ cs) ≡ c ∷ of_session c.session cs
first_there c cs = ap (λ b. cond b (c ∷ of_session c.session cs) (of_session c.session cs)) (same_number c.session)

pub some_same : (g k : Group) → SameGroup g k → 0 < length g → 0 < length k
some_same [] k s h = absurd (omega (arith, h))
some_same (c ∷ cs) [] s h = absurd (cons_is_not_nil c (of_session c.session cs) (sym (first_there c cs) ∙ s c.session))
some_same (c ∷ cs) (d ∷ ds) s h = omega arith

pub none_of : (j : ℕ) (g : Group) → IsFalse (list_any (λ m. m == j) (map (λ (c : Commit). c.session) g)) → of_session j g ≡ []
none_of j [] h = refl
none_of j (c ∷ cs) h =
    ap (λ b. cond b (c ∷ of_session j cs) (of_session j cs)) (or_left (c.session == j) (list_any (λ m. m == j) (map (λ (d : Commit). d.session) cs)) h)
    ∙ none_of j cs (or_right (c.session == j) (list_any (λ m. m == j) (map (λ (d : Commit). d.session) cs)) h)

pub shorter : {X : Type 0} (n : ℕ) (b : Bool) (x : X) (xs : List X) → length (cond b (x ∷ xs) xs) ≤ n → length xs ≤ n
shorter n true x xs h = omega (arith, h)
shorter n false x xs h = h

pub none_here : (j : ℕ) (g : Group) → length (of_session j g) ≤ 0 → IsFalse (list_any (λ m. m == j) (map (λ (c : Commit). c.session) g))
none_here j [] h = refl
none_here j (c ∷ cs) h = cases (c.session == j)
    (λ e. absurd (let k : length (c ∷ of_session j cs) ≤ 0 = subst (λ b. length (cond b (c ∷ of_session j cs) (of_session j cs)) ≤ 0) e h in omega (arith, k)))
    (λ e. ap (λ b. b || list_any (λ m. m == j) (map (λ (d : Commit). d.session) cs)) e ∙ none_here j cs (shorter 0 (c.session == j) c (of_session j cs) h))

pub one_each : (g : Group) → NoNumberTwice (map (λ (c : Commit). c.session) g) → (j : ℕ) → length (of_session j g) ≤ 1
one_each [] h j = omega arith
one_each (c ∷ cs) h j = cases (c.session == j)
    (λ e.
    let same : c.session ≡ j = (Decides-eqb c.session j).0 e in
    let rest : of_session j cs ≡ [] = subst (λ n. of_session n cs ≡ []) same (none_of c.session cs h.0) in
    let all : of_session j (c ∷ cs) ≡ c ∷ [] = ap (λ b. cond b (c ∷ of_session j cs) (of_session j cs)) e ∙ ap (λ xs. c ∷ xs) rest in
    subst (λ xs. length xs ≤ 1) (sym all) (omega arith))
    (λ e. subst (λ b. length (cond b (c ∷ of_session j cs) (of_session j cs)) ≤ 1) (sym e) (one_each cs h.1 j))

pub less_one : {X : Type 0} (x : X) (xs : List X) → length (x ∷ xs) ≤ 1 → length xs ≤ 0
less_one x xs h = omega (arith, h)

pub one_each_back : (g : Group) → ((j : ℕ) → length (of_session j g) ≤ 1) → NoNumberTwice (map (λ (c : Commit). c.session) g)
one_each_back [] h = tt
one_each_back (c ∷ cs) h = (
  none_here c.session cs (less_one c (of_session c.session cs) (subst (λ xs. length xs ≤ 1) (first_there c cs) (h c.session))),
  one_each_back cs (λ j. shorter 1 (c.session == j) c (of_session j cs) (h j)),
)

pub sessions_same : (g k : Group) → SameGroup g k → NoNumberTwice (map (λ (c : Commit). c.session) g) → NoNumberTwice (map (λ (c : Commit). c.session) k)
sessions_same g k s h = one_each_back k (λ j. subst (λ xs. length xs ≤ 1) (s j) (one_each g h j))

pub rids_same : (g k : Group) → SameGroup g k → NoNumberTwice (map (λ (c : Commit). c.session) g) → NoneTwice (group_rids g) → NoneTwice (group_rids k)
rids_same g k s n h =
    all_apart_back k (sessions_same g k s n) (each_same _ g k s (own_apart g h))
    (each_same _ g k s (each_keeps _ _ (λ c. each_same (AreApart c) g k s) g (all_apart g h)))

pub group_same : (n : ℕ) (g k : Group) → SameGroup g k → IsGroup n g → IsGroup n k
group_same n g k s h = record { some = some_same g k s h.some; commits = each_same (IsCommit n) g k s h.commits; sessions = sessions_same g k s h.sessions; rids = rids_same g k s h.sessions h.rids }

-- ---- what a group writes

pub image_out : (r : Rid) (ws : List Write) → Without r (rids_of ws) → image_in r ws ≡ None
image_out r [] h = refl
image_out r (w ∷ ws) h =
    ap (λ b. cond b (Some w.image) (image_in r ws)) (not_back (same_rid w.rid r) (λ e. same_rid_sym w.rid r e) (or_left (same_rid r w.rid) (is_among r (rids_of ws)) h))
    ∙ image_out r ws (or_right (same_rid r w.rid) (is_among r (rids_of ws)) h)
  where
    not_back : (b : Bool) → (b ≡ true → same_rid r w.rid ≡ true) → same_rid r w.rid ≡ false → b ≡ false
    not_back true f e = absurd (true_false (sym (f refl) ∙ e))
    not_back false f e = refl

pub images_out : (r : Rid) (g : Group) → Without r (group_rids g) → Each (λ (c : Commit). image_in r c.images ≡ None) g
images_out r [] h = tt
images_out r (c ∷ cs) h =
    let e : (is_among r (rids_of c.images) || is_among r (group_rids cs)) ≡ false = sym (any_append (same_rid r) (rids_of c.images) (group_rids cs)) ∙ h in
    (image_out r c.images (or_left (is_among r (rids_of c.images)) (is_among r (group_rids cs)) e), images_out r cs (or_right (is_among r (rids_of c.images)) (is_among r (group_rids cs)) e))

abbrev pub NoneOr : Option Image → Rid → Commit → Type 0
NoneOr o r c = (image_in r c.images ≡ None) ⊎ (image_in r c.images ≡ o)

pub or_none_is : (o p : Option Image) → o ≡ None → option_or o p ≡ p
or_none_is o p e = ap (λ q. option_or q p) e

pub image_of_each : (r : Rid) (g : Group) → NoneTwice (group_rids g) → Each (NoneOr (group_image r g) r) g
image_of_each r [] h = tt
image_of_each r (c ∷ cs) h = go (image_of_each r cs (twice_right (rids_of c.images) (group_rids cs) h)) (twice_apart (rids_of c.images) (group_rids cs) h r)
  where
    some : (o : Option Image) → (image_in r c.images ≡ o) → NoneOr (option_or o (group_image r cs)) r c
    some None e = inl e
    some (Some i) e = inr e

    rest : (o : Option Image) → Each (λ (d : Commit). image_in r d.images ≡ None) cs → Each (NoneOr o r) cs
    rest o k = each_keeps _ _ (λ d e. inl e) cs k

    go : Each (NoneOr (group_image r cs) r) cs → Without r (rids_of c.images) ⊎ Without r (group_rids cs) → Each (NoneOr (option_or (image_in r c.images) (group_image r cs)) r) (c ∷ cs)
    go later (inl k) = (some (image_in r c.images) refl, subst (λ o. Each (NoneOr o r) cs) (sym (or_none_is (image_in r c.images) (group_image r cs) (image_out r c.images k))) later)
    go later (inr k) = (some (image_in r c.images) refl, rest (option_or (image_in r c.images) (group_image r cs)) (images_out r cs k))

pub image_is : (o : Option Image) (r : Rid) (g : Group) → Each (NoneOr o r) g → (group_image r g ≡ None) ⊎ (group_image r g ≡ o)
image_is o r [] h = inl refl
image_is o r (c ∷ cs) h = go (image_in r c.images) h.0 (image_is o r cs h.1)
  where
    go : (p : Option Image) → (p ≡ None) ⊎ (p ≡ o) → (group_image r cs ≡ None) ⊎ (group_image r cs ≡ o) → (option_or p (group_image r cs) ≡ None) ⊎ (option_or p (group_image r cs) ≡ o)
    go None e k = k
    go (Some i) (inl e) k = inl e
    go (Some i) (inr e) k = inr e

pub no_images : (r : Rid) (g : Group) → group_image r g ≡ None → Each (λ (c : Commit). image_in r c.images ≡ None) g
no_images r [] e = tt
no_images r (c ∷ cs) e = go (image_in r c.images) e (λ k. no_images r cs k)
  where
    go : (p : Option Image) → option_or p (group_image r cs) ≡ None → (group_image r cs ≡ None → Each (λ (d : Commit). image_in r d.images ≡ None) cs) → (p ≡ None) ×
        Each (λ (d : Commit). image_in r d.images ≡ None) cs
    go None k f = (refl, f k)
    go (Some i) k f = absurd (some_is_not_none i k)
      where
        some_is_not_none : (j : Image) → Some j ≡ None → ⊥
        some_is_not_none j q = cc

pub no_image : (r : Rid) (g : Group) → Each (λ (c : Commit). image_in r c.images ≡ None) g → group_image r g ≡ None
no_image r [] h = refl
no_image r (c ∷ cs) h = or_none_is (image_in r c.images) (group_image r cs) h.0 ∙ no_image r cs h.1

pub image_same : (r : Rid) (g k : Group) → SameGroup g k → NoneTwice (group_rids g) → group_image r g ≡ group_image r k
image_same r g k s h = go (image_is (group_image r g) r k (each_same _ g k s (image_of_each r g h)))
  where
    go : (group_image r k ≡ None) ⊎ (group_image r k ≡ group_image r g) → group_image r g ≡ group_image r k
    go (inl e) = no_image r g (each_same _ k g (same_back g k s) (no_images r k e)) ∙ sym e
    go (inr e) = sym e

-- ---- histories

pub writes_same : (n : ℕ) (h k : History) (r : Rid) → SameGroups h k → EachGroup IsGroup n h → writes_from n h r ≡ writes_from n k r
writes_same n [] [] r s i = refl
writes_same n [] (k ∷ ks) r s i = absurd s
writes_same n (g ∷ gs) [] r s i = absurd s
writes_same n (g ∷ gs) (k ∷ ks) r s i =
    ap (λ o. cons_option (option_map (λ image. (n, image)) o) (writes_from (suc n) gs r)) (image_same r g k s.0 i.0.rids)
    ∙ ap (cons_option (option_map (λ image. (n, image)) (group_image r k))) (writes_same (suc n) gs ks r s.1 i.1)

pub history_same : (n : ℕ) (h k : History) → SameGroups h k → EachGroup IsGroup n h → EachGroup IsGroup n k
history_same n [] [] s i = tt
history_same n [] (k ∷ ks) s i = absurd s
history_same n (g ∷ gs) [] s i = absurd s
history_same n (g ∷ gs) (k ∷ ks) s i = (group_same n g k s.0 i.0, history_same (suc n) gs ks s.1 i.1)

pub length_same : (h k : History) → SameGroups h k → length h ≡ length k
length_same [] [] s = refl
length_same [] (k ∷ ks) s = absurd s
length_same (g ∷ gs) [] s = absurd s
length_same (g ∷ gs) (k ∷ ks) s = ap suc (length_same gs ks s.1)

-- a law on each commit with the number of its group
pub each_commit_same : (P Q : ℕ → Commit → Type 0) → ((n : ℕ) (c : Commit) → P n c → Q n c) → (n : ℕ) (h k : History) → SameGroups h k → EachGroup (λ m g. Each (P m) g) n h →
    EachGroup (λ m g. Each (Q m) g) n k
each_commit_same P Q f n [] [] s i = tt
each_commit_same P Q f n [] (k ∷ ks) s i = absurd s
each_commit_same P Q f n (g ∷ gs) [] s i = absurd s
each_commit_same P Q f n (g ∷ gs) (k ∷ ks) s i = (each_keeps (P n) (Q n) (f n) k (each_same (P n) g k s.0 i.0), each_commit_same P Q f (suc n) gs ks s.1 i.1)

pub kept_same : (h k : History) → SameGroups h k → IsHistory h → NoLostUpdate h → NoLostUpdate k
kept_same h k s i l =
    each_commit_same _ _ (λ n c. each_keeps _ _ (λ w. subst (Each (λ (other : ℕ × Image). (other.0 ≤ c.at) ⊎ (n ≤ other.0))) (writes_same 1 h k w.rid s i)) c.images) 1 h k s l
