-- A group without a session or a record twice, as a fact about each two of its commits.
use Rattle.std.proofs.Common.{◌≡◌, ℕ, List, [], ◌∷◌, ◌++◌, map, Bool, true, false, Option, Some, None, refl, sym, ap, ◌∙◌, subst}
use Rattle.std.specs.Prelude.{◌==◌, ◌||◌, cond, IsFalse, IsSome, is_some, nat_lt, ⊤}
use Rattle.std.specs.List.{list_any}
use Rattle.std.proofs.lemmas.Bool.Decides.{Decides-eqb}
use Rattle.hg_base.specs.declared.rid.Rid.{Rid}
use Rattle.hg_base.specs.declared.image.Image.{Image}
use Rattle.hg_base.specs.Lists.{Each}
use Rattle.hg_base.specs.History.{Write, Commit, Group, NoneTwice, NoNumberTwice, group_rids, rids_of, is_among, image_in, same_rid}
use Rattle.hg_base.specs.Transcript.{put_by_session, group_of}
use Rattle.hg_base.proofs.ListFacts.{cases, false_true, each_keeps}
use Rattle.hg_base.proofs.HistoryFacts.{same_rid_equal, same_rid_itself}
use Rattle.hg_base.proofs.RidOrder.{same_back}
use Rattle.hg_known.specs.Commits.{AreOfTwo, AreApart, AllApart}

pub or_left : (a b : Bool) → (a || b) ≡ false → a ≡ false
or_left true b e = e
or_left false b e = refl

pub or_right : (a b : Bool) → (a || b) ≡ false → b ≡ false
or_right true b e = cc
or_right false b e = e

pub neither : (a b : Bool) → a ≡ false → b ≡ false → (a || b) ≡ false
neither true b h k = h
neither false b h k = k

pub any_append : {X : Type 0} (p : X → Bool) (xs ys : List X) → list_any p (xs ++ ys) ≡ (list_any p xs || list_any p ys)
any_append p [] ys = refl
any_append p (x ∷ xs) ys = ap (λ b. p x || b) (any_append p xs ys) ∙ or_assoc (p x) (list_any p xs) (list_any p ys)
  where
    or_assoc : (a b c : Bool) → (a || (b || c)) ≡ ((a || b) || c)
    or_assoc true b c = refl
    or_assoc false b c = refl

pub none_of_no : {X : Type 0} (o : Option X) → is_some o ≡ false → o ≡ None
none_of_no None e = refl
none_of_no (Some x) e = cc

pub no_of_none : {X : Type 0} (o : Option X) → o ≡ None → is_some o ≡ false
no_of_none None e = refl
no_of_none (Some x) e = cc

pub both_ways : (m n : ℕ) → (m == n) ≡ false → (n == m) ≡ false
both_ways m n e = cases (n == m) (λ k. absurd (let q = sym ((Decides-eqb m n).1 (sym ((Decides-eqb n m).0 k))) ∙ e in false_true (sym q))) (λ k. k)

-- ---- records that are written

pub among_image : (r : Rid) (ws : List Write) → is_among r (rids_of ws) ≡ is_some (image_in r ws)
among_image r [] = refl
among_image r (w ∷ ws) = ap (λ b. b || is_among r (rids_of ws)) (same_back r w.rid) ∙ go (same_rid w.rid r) (among_image r ws)
  where
    go : (b : Bool) → is_among r (rids_of ws) ≡ is_some (image_in r ws) → (b || is_among r (rids_of ws)) ≡ is_some (cond b (Some w.image) (image_in r ws))
    go true e = refl
    go false e = e

-- what is in the one is not in the other
abbrev pub Apart : List Rid → List Rid → Type 0
Apart xs ys = (r : Rid) → is_among r xs ≡ true → is_among r ys ≡ false

pub twice_left : (xs ys : List Rid) → NoneTwice (xs ++ ys) → NoneTwice xs
twice_left [] ys h = tt
twice_left (x ∷ xs) ys h = (or_left (is_among x xs) (is_among x ys) (sym (any_append (same_rid x) xs ys) ∙ h.0), twice_left xs ys h.1)

pub twice_right : (xs ys : List Rid) → NoneTwice (xs ++ ys) → NoneTwice ys
twice_right [] ys h = h
twice_right (x ∷ xs) ys h = twice_right xs ys h.1

pub twice_apart : (xs ys : List Rid) → NoneTwice (xs ++ ys) → Apart xs ys
twice_apart [] ys h r e = absurd (false_true e)
twice_apart (x ∷ xs) ys h r e = cases (same_rid r x)
    (λ same. ap (λ q. is_among q ys) (same_rid_equal r x same) ∙ or_right (is_among x xs) (is_among x ys) (sym (any_append (same_rid x) xs ys) ∙ h.0))
    (λ other. twice_apart xs ys h.1 r (sym (ap (λ b. b || is_among r xs) other) ∙ e))

pub twice_append : (xs ys : List Rid) → NoneTwice xs → NoneTwice ys → Apart xs ys → NoneTwice (xs ++ ys)
twice_append [] ys h k a = k
twice_append (x ∷ xs) ys h k a = (
  any_append (same_rid x) xs ys ∙ neither (is_among x xs) (is_among x ys) h.0 (a x (ap (λ b. b || is_among x xs) (same_rid_itself x))),
  twice_append xs ys h.1 k (λ r e. a r (or_later (same_rid r x) (is_among r xs) e)),
)
  where
    or_later : (a b : Bool) → b ≡ true → (a || b) ≡ true
    or_later true b e = refl
    or_later false b e = e

-- ---- commits of one group

abbrev pub OwnOnce : Commit → Type 0
OwnOnce c = NoneTwice (rids_of c.images)

abbrev pub InPairs : Group → Type 0
InPairs [] = ⊤
InPairs (c ∷ cs) = OwnOnce c × Each (AreOfTwo c) cs × InPairs cs

abbrev pub Sessions : Group → List ℕ
Sessions g = map (λ (c : Commit). c.session) g

-- a record that the group does not write, none of its commits writes
pub none_each : (r : Rid) (g : Group) → is_among r (group_rids g) ≡ false → Each (λ (d : Commit). image_in r d.images ≡ None) g
none_each r [] e = tt
none_each r (d ∷ ds) e =
    let k = sym (any_append (same_rid r) (rids_of d.images) (group_rids ds)) ∙ e in (
      none_of_no (image_in r d.images) (sym (among_image r d.images) ∙ or_left (is_among r (rids_of d.images)) (is_among r (group_rids ds)) k),
      none_each r ds (or_right (is_among r (rids_of d.images)) (is_among r (group_rids ds)) k),
    )

pub each_none : (r : Rid) (g : Group) → Each (λ (d : Commit). image_in r d.images ≡ None) g → is_among r (group_rids g) ≡ false
each_none r [] h = refl
each_none r (d ∷ ds) h = any_append (same_rid r) (rids_of d.images) (group_rids ds) ∙ neither (is_among r (rids_of d.images)) (is_among r (group_rids ds)) (among_image r d.images ∙
    no_of_none (image_in r d.images) h.0) (each_none r ds h.1)

pub other_sessions : (j : ℕ) (g : Group) → IsFalse (list_any (λ m. m == j) (Sessions g)) → Each (λ (d : Commit). IsFalse (j == d.session)) g
other_sessions j [] h = tt
other_sessions j (d ∷ ds) h = (
  both_ways d.session j (or_left (d.session == j) (list_any (λ m. m == j) (Sessions ds)) h),
  other_sessions j ds
      (or_right (d.session == j) (list_any (λ m. m == j) (Sessions ds)) h),
)

pub sessions_other : (j : ℕ) (g : Group) → Each (λ (d : Commit). IsFalse (j == d.session)) g → IsFalse (list_any (λ m. m == j) (Sessions g))
sessions_other j [] h = refl
sessions_other j (d ∷ ds) h = neither (d.session == j) (list_any (λ m. m == j) (Sessions ds)) (both_ways j d.session h.0) (sessions_other j ds h.1)

-- what holds of each record holds of each commit for each record
pub each_for_all : {X I : Type 0} (P : I → X → Type 0) (xs : List X) → ((i : I) → Each (P i) xs) → Each (λ x. (i : I) → P i x) xs
each_for_all P [] h = tt
each_for_all P (x ∷ xs) h = (λ i. (h i).0, each_for_all P xs (λ i. (h i).1))

pub each_pairs : {X : Type 0} (P Q : X → Type 0) (xs : List X) → Each P xs → Each Q xs → Each (λ x. P x × Q x) xs
each_pairs P Q [] h k = tt
each_pairs P Q (x ∷ xs) h k = ((h.0, k.0), each_pairs P Q xs h.1 k.1)

pub once_pairs : (g : Group) → NoNumberTwice (Sessions g) → NoneTwice (group_rids g) → InPairs g
once_pairs [] n t = tt
once_pairs (c ∷ cs) n t = (
  twice_left (rids_of c.images) (group_rids cs) t,
  each_pairs _ _ cs (other_sessions c.session cs n.0) (each_for_all (λ (r : Rid) (d : Commit). IsSome (image_in r c.images) → image_in r d.images ≡ None) cs
      (λ r. among r (is_among r (rids_of c.images)) refl)),
  once_pairs cs n.1 (twice_right (rids_of c.images) (group_rids cs) t),
)
  where
    among : (r : Rid) (b : Bool) → is_among r (rids_of c.images) ≡ b → Each (λ (d : Commit). IsSome (image_in r c.images) → image_in r d.images ≡ None) cs
    among r true e = each_keeps _ _ (λ d k _. k) cs (none_each r cs (twice_apart (rids_of c.images) (group_rids cs) t r e))
    among r false e = always cs
      where
        always : (ds : Group) → Each (λ (d : Commit). IsSome (image_in r c.images) → image_in r d.images ≡ None) ds
        always [] = tt
        always (d ∷ ds) = (λ s. absurd (false_true (sym e ∙ among_image r c.images ∙ s)), always ds)

pub pairs_sessions : (g : Group) → InPairs g → NoNumberTwice (Sessions g)
pairs_sessions [] h = tt
pairs_sessions (c ∷ cs) h = (sessions_other c.session cs (each_keeps _ _ (λ d k. k.0) cs h.1), pairs_sessions cs h.2)

pub pairs_rids : (g : Group) → InPairs g → NoneTwice (group_rids g)
pairs_rids [] h = tt
pairs_rids (c ∷ cs) h = twice_append (rids_of c.images) (group_rids cs) h.0 (pairs_rids cs h.2) (λ r e. each_none r cs (each_keeps _ _ (λ d k. k.1 r (sym (among_image r c.images) ∙ e)) cs h.1))

pub of_two_back : (c d : Commit) → AreOfTwo c d → AreOfTwo d c
of_two_back c d (apart, f) = (
  both_ways c.session d.session apart,
  λ r s. cases (is_some (image_in r c.images)) (λ t. absurd (none_is_some (image_in r d.images) (f r t) s))
      (λ n. none_of_no (image_in r c.images) n),
)
  where
    none_is_some : (o : Option Image) → o ≡ None → IsSome o → ⊥
    none_is_some None e s = false_true s
    none_is_some (Some i) e s = cc

-- ---- a commit put among those of its group

pub each_put : (P : Commit → Type 0) (c : Commit) (g : Group) → P c → Each P g → Each P (put_by_session c g)
each_put P c [] p h = (p, tt)
each_put P c (d ∷ ds) p h = go (nat_lt d.session c.session) (each_put P c ds p h.1)
  where
    go : (b : Bool) → Each P (put_by_session c ds) → Each P (cond b (d ∷ put_by_session c ds) (c ∷ d ∷ ds))
    go true k = (h.0, k)
    go false k = (p, h)

pub put_each : (P : Commit → Type 0) (c : Commit) (g : Group) → Each P (put_by_session c g) → P c × Each P g
put_each P c [] h = (h.0, tt)
put_each P c (d ∷ ds) h = go (nat_lt d.session c.session) h (put_each P c ds)
  where
    go : (b : Bool) → Each P (cond b (d ∷ put_by_session c ds) (c ∷ d ∷ ds)) → (Each P (put_by_session c ds) → P c × Each P ds) → P c × Each P (d ∷ ds)
    go true k f = let q = f k.1 in (q.0, (k.0, q.1))
    go false k f = k

pub pairs_put : (c : Commit) (g : Group) → OwnOnce c → Each (AreOfTwo c) g → InPairs g → InPairs (put_by_session c g)
pairs_put c [] o a h = (o, tt, tt)
pairs_put c (d ∷ ds) o a h = go (nat_lt d.session c.session) (pairs_put c ds o a.1 h.2)
  where
    go : (b : Bool) → InPairs (put_by_session c ds) → InPairs (cond b (d ∷ put_by_session c ds) (c ∷ d ∷ ds))
    go true k = (h.0, each_put (AreOfTwo d) c ds (of_two_back c d a.0) h.1, k)
    go false k = (o, a, h)

pub put_pairs : (c : Commit) (g : Group) → InPairs (put_by_session c g) → OwnOnce c × Each (AreOfTwo c) g × InPairs g
put_pairs c [] h = (h.0, tt, tt)
put_pairs c (d ∷ ds) h = go (nat_lt d.session c.session) h (put_pairs c ds)
  where
    go : (b : Bool) → InPairs (cond b (d ∷ put_by_session c ds) (c ∷ d ∷ ds)) → (InPairs (put_by_session c ds) → OwnOnce c × Each (AreOfTwo c) ds × InPairs ds) → OwnOnce c ×
        Each (AreOfTwo c) (d ∷ ds) × InPairs (d ∷ ds)
    go true k f =
        let q = f k.2 in
        let e = put_each (AreOfTwo d) c ds k.1 in
        (q.0, (of_two_back d c e.0, q.1), (k.0, e.1, q.2))
    go false k f = k

-- ---- the printed commits by number

pub each_group : (P : Commit → Type 0) (n : ℕ) (ps : List (ℕ × Commit)) → Each (λ q. q.0 ≡ n → P q.1) ps → Each P (group_of ps n)
each_group P n [] h = tt
each_group P n (p ∷ ps) h = cases (p.0 == n)
    (λ same. subst (Each P) (sym (ap (λ b. cond b (put_by_session p.1 (group_of ps n)) (group_of ps n)) same))
    (each_put P p.1 (group_of ps n) (h.0 ((Decides-eqb p.0 n).0 same)) (each_group P n ps h.1)))
    (λ other. subst (Each P) (sym (ap (λ b. cond b (put_by_session p.1 (group_of ps n)) (group_of ps n)) other)) (each_group P n ps h.1))

pub group_each : (P : Commit → Type 0) (n : ℕ) (ps : List (ℕ × Commit)) → Each P (group_of ps n) → Each (λ q. q.0 ≡ n → P q.1) ps
group_each P n [] h = tt
group_each P n (p ∷ ps) h = go (p.0 == n) refl h (group_each P n ps)
  where
    go : (b : Bool) → (p.0 == n) ≡ b → Each P (cond b (put_by_session p.1 (group_of ps n)) (group_of ps n)) → (Each P (group_of ps n) → Each (λ q. q.0 ≡ n → P q.1) ps) →
        Each (λ q. q.0 ≡ n → P q.1) (p ∷ ps)
    go true e k f = let q = put_each P p.1 (group_of ps n) k in (λ _. q.0, f q.1)
    go false e k f = (λ same. absurd (false_true (sym e ∙ (Decides-eqb p.0 n).1 same)), f k)

pub to_pairs : (ps : List (ℕ × Commit)) → AllApart ps → Each (λ q. OwnOnce q.1) ps → (n : ℕ) → InPairs (group_of ps n)
to_pairs [] a o n = tt
to_pairs (p ∷ ps) a o n = cases (p.0 == n)
    (λ same. subst InPairs (sym (ap (λ b. cond b (put_by_session p.1 (group_of ps n)) (group_of ps n)) same))
    (pairs_put p.1 (group_of ps n) o.0 (each_group (AreOfTwo p.1) n ps (each_keeps _ _ (λ q f e. f ((Decides-eqb p.0 n).0 same ∙ sym e)) ps a.0)) (to_pairs ps a.1 o.1 n)))
    (λ other. subst InPairs (sym (ap (λ b. cond b (put_by_session p.1 (group_of ps n)) (group_of ps n)) other)) (to_pairs ps a.1 o.1 n))

pub from_pairs : (ps : List (ℕ × Commit)) → ((n : ℕ) → InPairs (group_of ps n)) → AllApart ps
from_pairs [] h = tt
from_pairs (p ∷ ps) h = (
  each_keeps (λ q. q.0 ≡ p.0 → AreOfTwo p.1 q.1) (AreApart p) (λ q f e. f (sym e)) ps
      (group_each (AreOfTwo p.1) p.0 ps (put_pairs p.1 (group_of ps p.0)
      (subst InPairs (ap (λ b. cond b (put_by_session p.1 (group_of ps p.0)) (group_of ps p.0)) ((Decides-eqb p.0 p.0).1 refl)) (h p.0))).1),
  from_pairs ps (λ n. go n (p.0 == n) (h n)),
)
  where
    go : (n : ℕ) (b : Bool) → InPairs (cond b (put_by_session p.1 (group_of ps n)) (group_of ps n)) → InPairs (group_of ps n)
    go n true k = (put_pairs p.1 (group_of ps n) k).2
    go n false k = k
