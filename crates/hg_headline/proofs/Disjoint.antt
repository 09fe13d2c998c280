-- What is said of commits whose records are apart from those of a group.
use Rattle.std.proofs.Common.{◌≡◌, ℕ, ◌⊎◌, inl, inr, List, [], ◌∷◌, ◌++◌, map, Bool, true, false, refl, sym, ◌∙◌}
use Rattle.std.specs.Prelude.{◌==◌, ◌||◌, IsTrue, IsFalse}
use Rattle.std.specs.List.{list_any}
use Rattle.hg_base.specs.declared.rid.Rid.{Rid}
use Rattle.hg_base.specs.Lists.{Each}
use Rattle.hg_base.specs.History.{Commit, Group, NoneTwice, NoNumberTwice, group_rids, rids_of, is_among}
use Rattle.hg_base.specs.History.{same_rid}
use Rattle.hg_base.proofs.ListFacts.{cases, each_keeps}
use Rattle.hg_base.proofs.HistoryFacts.{same_rid_itself}
use Rattle.hg_core.proofs.Remaining.{left_false as or_left, right_false as or_right}
use Rattle.hg_headline.proofs.Words.{true_false, same_number, equal_back, not_among_same, any_append, each_pairs}

abbrev pub Without : Rid → List Rid → Type 0
Without r rids = IsFalse (is_among r rids)

-- no record is in both
abbrev pub Apart : List Rid → List Rid → Type 0
Apart xs ys = (r : Rid) → Without r xs ⊎ Without r ys

pub neither : (a b : Bool) → IsFalse a → IsFalse b → IsFalse (a || b)
neither true b h k = h
neither false b h k = k

pub without_append : (r : Rid) (xs ys : List Rid) → Without r xs → Without r ys → Without r (xs ++ ys)
without_append r xs ys h k = any_append (same_rid r) xs ys ∙ neither (is_among r xs) (is_among r ys) h k

pub twice_left : (xs ys : List Rid) → NoneTwice (xs ++ ys) → NoneTwice xs
twice_left [] ys h = tt
twice_left (x ∷ xs) ys h = (or_left (is_among x xs) (is_among x ys) (sym (any_append (same_rid x) xs ys) ∙ h.0), twice_left xs ys h.1)

pub twice_right : (xs ys : List Rid) → NoneTwice (xs ++ ys) → NoneTwice ys
twice_right [] ys h = h
twice_right (x ∷ xs) ys h = twice_right xs ys h.1

pub twice_apart : (xs ys : List Rid) → NoneTwice (xs ++ ys) → Apart xs ys
twice_apart [] ys h r = inl refl
twice_apart (x ∷ xs) ys h r = cases (same_rid r x)
    (λ e. inr (not_among_same r x ys e (or_right (is_among x xs) (is_among x ys) (sym (any_append (same_rid x) xs ys) ∙ h.0))))
    (λ e. first_or (same_rid r x) e (twice_apart xs ys h.1 r))
  where
    first_or : (b : Bool) → b ≡ false → Without r xs ⊎ Without r ys → IsFalse (b || is_among r xs) ⊎ Without r ys
    first_or b e (inl k) = inl (neither b (is_among r xs) e k)
    first_or b e (inr k) = inr k

pub apart_less : (x : Rid) (xs ys : List Rid) → Apart (x ∷ xs) ys → Apart xs ys
apart_less x xs ys h r = go (h r)
  where
    go : Without r (x ∷ xs) ⊎ Without r ys → Without r xs ⊎ Without r ys
    go (inl k) = inl (or_right (same_rid r x) (is_among r xs) k)
    go (inr k) = inr k

pub apart_first : (x : Rid) (xs ys : List Rid) → Apart (x ∷ xs) ys → Without x ys
apart_first x xs ys h = go (h x)
  where
    go : Without x (x ∷ xs) ⊎ Without x ys → Without x ys
    go (inl k) = absurd (true_false (sym (same_rid_itself x) ∙ or_left (same_rid x x) (is_among x xs) k))
    go (inr k) = k

pub twice_append : (xs ys : List Rid) → NoneTwice xs → NoneTwice ys → Apart xs ys → NoneTwice (xs ++ ys)
twice_append [] ys h k a = k
twice_append (x ∷ xs) ys h k a = (without_append x xs ys h.0 (apart_first x xs ys a), twice_append xs ys h.1 k (apart_less x xs ys a))

-- the commits' records apart from those of a group
pub apart_each : (xs : List Rid) (g : Group) → Apart xs (group_rids g) → Each (λ (d : Commit). Apart xs (rids_of d.images)) g
apart_each xs [] h = tt
apart_each xs (d ∷ ds) h = (λ r. left r (h r), apart_each xs ds (λ r. right r (h r)))
  where
    left : (r : Rid) → Without r xs ⊎ Without r (rids_of d.images ++ group_rids ds) → Without r xs ⊎ Without r (rids_of d.images)
    left r (inl k) = inl k
    left r (inr k) = inr (or_left (is_among r (rids_of d.images)) (is_among r (group_rids ds)) (sym (any_append (same_rid r) (rids_of d.images) (group_rids ds)) ∙ k))

    right : (r : Rid) → Without r xs ⊎ Without r (rids_of d.images ++ group_rids ds) → Without r xs ⊎ Without r (group_rids ds)
    right r (inl k) = inl k
    right r (inr k) = inr (or_right (is_among r (rids_of d.images)) (is_among r (group_rids ds)) (sym (any_append (same_rid r) (rids_of d.images) (group_rids ds)) ∙ k))

pub apart_all : (xs : List Rid) (g : Group) → Each (λ (d : Commit). Apart xs (rids_of d.images)) g → Apart xs (group_rids g)
apart_all xs [] h r = inr refl
apart_all xs (d ∷ ds) h r = go (h.0 r) (apart_all xs ds h.1 r)
  where
    go : Without r xs ⊎ Without r (rids_of d.images) → Without r xs ⊎ Without r (group_rids ds) → Without r xs ⊎ Without r (rids_of d.images ++ group_rids ds)
    go (inl k) m = inl k
    go (inr k) (inl m) = inl m
    go (inr k) (inr m) = inr (without_append r (rids_of d.images) (group_rids ds) k m)

pub apart_back : (xs ys : List Rid) → Apart xs ys → Apart ys xs
apart_back xs ys h r = go (h r)
  where
    go : Without r xs ⊎ Without r ys → Without r ys ⊎ Without r xs
    go (inl k) = inr k
    go (inr k) = inl k

-- of one session, or with no record of both
abbrev pub AreApart : Commit → Commit → Type 0
AreApart c d = IsTrue (c.session == d.session) ⊎ Apart (rids_of c.images) (rids_of d.images)

pub own_apart : (g : Group) → NoneTwice (group_rids g) → Each (λ (c : Commit). NoneTwice (rids_of c.images)) g
own_apart [] h = tt
own_apart (c ∷ cs) h = (twice_left (rids_of c.images) (group_rids cs) h, own_apart cs (twice_right (rids_of c.images) (group_rids cs) h))

pub all_apart : (g : Group) → NoneTwice (group_rids g) → Each (λ (c : Commit). Each (AreApart c) g) g
all_apart [] h = tt
all_apart (c ∷ cs) h =
    let a : Each (λ (d : Commit). Apart (rids_of c.images) (rids_of d.images)) cs = apart_each (rids_of c.images) cs (twice_apart (rids_of c.images) (group_rids cs) h) in (
      (inl (same_number c.session), each_keeps _ _ (λ d k. inr k) cs a),
      each_keeps (λ d. Apart (rids_of c.images) (rids_of d.images) × Each (AreApart d) cs) (λ d. Each (AreApart d) (c ∷ cs))
          (λ d k. (inr (apart_back (rids_of c.images) (rids_of d.images) k.0), k.1)) cs
          (each_pairs _ _ cs a (all_apart cs (twice_right (rids_of c.images) (group_rids cs) h))),
    )

pub other_session : (j : ℕ) (g : Group) → IsFalse (list_any (λ m. m == j) (map (λ (c : Commit). c.session) g)) → Each (λ (d : Commit). IsFalse (d.session == j)) g
other_session j [] h = tt
other_session j (d ∷ ds) h = (
  or_left (d.session == j) (list_any (λ m. m == j) (map (λ (c : Commit). c.session) ds)) h,
  other_session j ds
      (or_right (d.session == j) (list_any (λ m. m == j) (map (λ (c : Commit). c.session) ds)) h),
)

pub apart_if_other : (c d : Commit) → IsFalse (d.session == c.session) × AreApart c d → Apart (rids_of c.images) (rids_of d.images)
apart_if_other c d (e, inl same) = absurd (true_false (sym (equal_back c.session d.session same) ∙ e))
apart_if_other c d (e, inr k) = k

pub all_apart_back : (g : Group) → NoNumberTwice (map (λ (c : Commit). c.session) g) → Each (λ (c : Commit). NoneTwice (rids_of c.images)) g →
    Each (λ (c : Commit). Each (AreApart c) g) g → NoneTwice (group_rids g)
all_apart_back [] n o h = tt
all_apart_back (c ∷ cs) n o h =
    twice_append (rids_of c.images) (group_rids cs) o.0 (all_apart_back cs n.1 o.1 (each_keeps _ _ (λ d k. k.1) cs h.1))
    (apart_all (rids_of c.images) cs (each_keeps _ _ (apart_if_other c) cs (each_pairs _ _ cs (other_session c.session cs n.0) h.0.1)))
