-- Records that are each there once: those that a history writes, and how many of them pass a test.
use Rattle.std.proofs.Common.{◌≡◌, ℕ, suc, ◌+◌, ◌<◌, ◌≤◌, List, [], ◌∷◌, length, Bool, true, false, Option, Some, None, refl, sym, ap, ◌∙◌, arith, cond}
use Rattle.std.specs.Prelude.{◌==◌, ◌&&◌, ◌||◌, filter, not, is_some, IsSome}
use Rattle.std.specs.List.{flat_map}
use Rattle.std.specs.Option.{option_or}
use Rattle.std.proofs.lemmas.Bool.Decides.{Decides-eqb}
use Rattle.hg_base.specs.declared.rid.Rid.{Rid}
use Rattle.hg_base.specs.declared.image.Image.{Image}
use Rattle.hg_base.specs.History.{Group, History, NoneTwice, same_rid, is_among, group_rids, rids_of, image_in, group_image, group_from}
use Rattle.hg_base.specs.Counts.{once}
use Rattle.hg_base.proofs.RidOrder.{same_back}
use Rattle.hg_base.proofs.HistoryFacts.{same_rid_equal}
use Rattle.hg_base.proofs.ListFacts.{cases, false_true}
use Rattle.hg_known.proofs.Pairs.{any_append, among_image, neither}

-- ---- records, each once

pub gone : (r : Rid) (xs : List Rid) → is_among r (filter (λ other. not (same_rid other r)) xs) ≡ false
gone r [] = refl
gone r (x ∷ xs) = go (same_rid x r) refl (gone r xs)
  where
    go : (b : Bool) → same_rid x r ≡ b → is_among r (filter (λ other. not (same_rid other r)) xs) ≡ false →
        is_among r (cond (not b) (x ∷ filter (λ other. not (same_rid other r)) xs) (filter (λ other. not (same_rid other r)) xs)) ≡ false
    go true e k = k
    go false e k = neither (same_rid r x) (is_among r (filter (λ other. not (same_rid other r)) xs)) (same_back r x ∙ e) k

pub out_left : (a b : Bool) → (a || b) ≡ false → (a ≡ false) × (b ≡ false)
out_left true b e = absurd (false_true (sym e))
out_left false b e = (refl, e)

pub among_filter : (r : Rid) (q : Rid → Bool) (xs : List Rid) → is_among r xs ≡ false → is_among r (filter q xs) ≡ false
among_filter r q [] e = refl
among_filter r q (x ∷ xs) e = let out = out_left (same_rid r x) (is_among r xs) e in go (q x) out.0 (among_filter r q xs out.1)
  where
    go : (b : Bool) → same_rid r x ≡ false → is_among r (filter q xs) ≡ false → is_among r (cond b (x ∷ filter q xs) (filter q xs)) ≡ false
    go true f k = neither (same_rid r x) (is_among r (filter q xs)) f k
    go false f k = k

pub twice_filter : (q : Rid → Bool) (xs : List Rid) → NoneTwice xs → NoneTwice (filter q xs)
twice_filter q [] h = tt
twice_filter q (x ∷ xs) h = go (q x) (among_filter x q xs h.0) (twice_filter q xs h.1)
  where
    go : (b : Bool) → is_among x (filter q xs) ≡ false → NoneTwice (filter q xs) → NoneTwice (cond b (x ∷ filter q xs) (filter q xs))
    go true f k = (f, k)
    go false f k = k

pub once_twice : (xs : List Rid) → NoneTwice (once xs)
once_twice [] = tt
once_twice (x ∷ xs) = (gone x (once xs), twice_filter (λ other. not (same_rid other x)) (once xs) (once_twice xs))

pub among_kept : (r x : Rid) (xs : List Rid) → same_rid r x ≡ false → is_among r xs ≡ true → is_among r (filter (λ other. not (same_rid other x)) xs) ≡ true
among_kept r x [] other m = absurd (false_true m)
among_kept r x (y ∷ ys) other m = go (same_rid y x) (same_rid r y) refl refl (among_kept r x ys other) m
  where
    go : (u v : Bool) → same_rid y x ≡ u → same_rid r y ≡ v → (is_among r ys ≡ true → is_among r (filter (λ other. not (same_rid other x)) ys) ≡ true) → (v || is_among r ys) ≡ true →
        is_among r (cond (not u) (y ∷ filter (λ other. not (same_rid other x)) ys) (filter (λ other. not (same_rid other x)) ys)) ≡ true
    go true true e f ih m = absurd (false_true (sym other ∙ ap (λ q. same_rid q x) (same_rid_equal r y f) ∙ e))
    go true false e f ih m = ih m
    go false true e f ih m = ap (λ b. b || is_among r (filter (λ other. not (same_rid other x)) ys)) f
    go false false e f ih m = ap (λ b. b || is_among r (filter (λ other. not (same_rid other x)) ys)) f ∙ ih m

pub among_once : (r : Rid) (xs : List Rid) → is_among r xs ≡ true → is_among r (once xs) ≡ true
among_once r [] m = m
among_once r (x ∷ xs) m = go (same_rid r x) refl m (among_once r xs)
  where
    go : (b : Bool) → same_rid r x ≡ b → (b || is_among r xs) ≡ true → (is_among r xs ≡ true → is_among r (once xs) ≡ true) → is_among r (once (x ∷ xs)) ≡ true
    go true e m ih = ap (λ b. b || is_among r (filter (λ other. not (same_rid other x)) (once xs))) e
    go false e m ih = ap (λ b. b || is_among r (filter (λ other. not (same_rid other x)) (once xs))) e ∙ among_kept r x (once xs) e (ih m)

-- ---- records that a history writes

pub in_group : (r : Rid) (g : Group) → is_among r (group_rids g) ≡ is_some (group_image r g)
in_group r [] = refl
in_group r (c ∷ cs) = any_append (same_rid r) (rids_of c.images) (group_rids cs) ∙ (λ i. among_image r c.images i || in_group r cs i) ∙ go (image_in r c.images)
  where
    go : (o : Option Image) → (is_some o || is_some (group_image r cs)) ≡ is_some (option_or o (group_image r cs))
    go None = refl
    go (Some image) = refl

pub in_history : (first : ℕ) (h : History) (r : Rid) (n : ℕ) → IsSome (group_image r (group_from first h n)) → is_among r (flat_map group_rids h) ≡ true
in_history first [] r n s = absurd (false_true s)
in_history first (g ∷ gs) r n s = any_append (same_rid r) (group_rids g) (flat_map group_rids gs) ∙ go (first == n) s (in_history (suc first) gs r n)
  where
    or_first : (a b : Bool) → a ≡ true → (a || b) ≡ true
    or_first true b e = refl
    or_first false b e = absurd (false_true e)

    or_later : (a b : Bool) → b ≡ true → (a || b) ≡ true
    or_later true b e = refl
    or_later false b e = e

    go : (b : Bool) → IsSome (group_image r (cond b g (group_from (suc first) gs n))) →
        (IsSome (group_image r (group_from (suc first) gs n)) → is_among r (flat_map group_rids gs) ≡ true) → (is_among r (group_rids g) || is_among r (flat_map group_rids gs)) ≡ true
    go true s more = or_first (is_among r (group_rids g)) (is_among r (flat_map group_rids gs)) (in_group r g ∙ s)
    go false s more = or_later (is_among r (group_rids g)) (is_among r (flat_map group_rids gs)) (more s)

pub over_all : (first : ℕ) (h : History) (n : ℕ) → first + length h ≤ n → group_from first h n ≡ []
over_all first [] n k = refl
over_all first (g ∷ gs) n k =
    let less : first < n = omega (arith, k) in
    let more : suc first + length gs ≤ n = omega (arith, k) in
    ap (λ b. cond b g (group_from (suc first) gs n)) (apart first n less) ∙ over_all (suc first) gs n more
  where
    apart : (a b : ℕ) → a < b → (a == b) ≡ false
    apart a b h = cases (a == b) (λ e. absurd (let q = (Decides-eqb a b).0 e in omega (arith, h, q))) (λ e. e)

-- ---- filters

pub filter_no : (p : Rid → Bool) → ((x : Rid) → p x ≡ false) → (xs : List Rid) → filter p xs ≡ []
filter_no p h [] = refl
filter_no p h (x ∷ xs) = ap (λ b. cond b (x ∷ filter p xs) (filter p xs)) (h x) ∙ filter_no p h xs

pub filter_same : (p q : Rid → Bool) → ((x : Rid) → p x ≡ q x) → (xs : List Rid) → filter p xs ≡ filter q xs
filter_same p q h xs = ap (λ (t : Rid → Bool). filter t xs) (λ i x. h x i)

pub count_cons : (p : Rid → Bool) (x : Rid) (xs : List Rid) → length (filter p (x ∷ xs)) ≡ cond (p x) 1 0 + length (filter p xs)
count_cons p x xs = go (p x)
  where
    go : (b : Bool) → length (cond b (x ∷ filter p xs) (filter p xs)) ≡ cond b 1 0 + length (filter p xs)
    go true = omega arith
    go false = omega arith

pub filter_apart : (a b : Rid → Bool) (r : Rid) → ((q : Rid) → same_rid r q ≡ false → b q ≡ a q) → (xs : List Rid) → is_among r xs ≡ false → filter b xs ≡ filter a xs
filter_apart a b r same [] e = refl
filter_apart a b r same (x ∷ xs) e =
    let out = out_left (same_rid r x) (is_among r xs) e in
    (λ i. cond (same x out.0 i) (x ∷ filter_apart a b r same xs out.1 i) (filter_apart a b r same xs out.1 i))

-- a test that changes at one record alone
pub one_counted : (a b : Rid → Bool) (r : Rid) → ((q : Rid) → same_rid r q ≡ false → b q ≡ a q) → a r ≡ false → (xs : List Rid) → NoneTwice xs → is_among r xs ≡ true →
    length (filter b xs) ≡ length (filter a xs) + cond (b r) 1 0
one_counted a b r same was [] t m = absurd (false_true m)
one_counted a b r same was (x ∷ xs) t m = go (same_rid r x) refl m (one_counted a b r same was xs t.1)
  where
    go : (v : Bool) → same_rid r x ≡ v → (v || is_among r xs) ≡ true → (is_among r xs ≡ true → length (filter b xs) ≡ length (filter a xs) + cond (b r) 1 0) →
        length (filter b (x ∷ xs)) ≡ length (filter a (x ∷ xs)) + cond (b r) 1 0
    go true e m more =
        let is : r ≡ x = same_rid_equal r x e in
        let rest : length (filter b xs) ≡ length (filter a xs) = ap length (filter_apart a b r same xs (ap (λ q. is_among q xs) is ∙ t.0)) in
        let new : cond (b x) 1 0 ≡ cond (b r) 1 0 = ap (λ q. cond (b q) 1 0) (sym is) in
        let old : cond (a x) 1 0 ≡ 0 = ap (λ q. cond (a q) 1 0) (sym is) ∙ ap (λ v. cond v 1 0) was in
        sum (length (filter b (x ∷ xs))) (length (filter a (x ∷ xs))) (cond (b x) 1 0) (cond (a x) 1 0) (cond (b r) 1 0) (length (filter b xs)) (length (filter a xs))
        (count_cons b x xs) (count_cons a x xs) rest new old
      where
        sum : (lb la bx ax br rb ra : ℕ) → lb ≡ bx + rb → la ≡ ax + ra → rb ≡ ra → bx ≡ br → ax ≡ 0 → lb ≡ la + br
        sum lb la bx ax br rb ra e f g h k = omega (arith, e, f, g, h, k)
    go false e m more =
        let rest : length (filter b xs) ≡ length (filter a xs) + cond (b r) 1 0 = more m in
        let alike : cond (b x) 1 0 ≡ cond (a x) 1 0 = ap (λ v. cond v 1 0) (same x e) in
        sum (length (filter b (x ∷ xs))) (length (filter a (x ∷ xs))) (cond (b x) 1 0) (cond (a x) 1 0) (cond (b r) 1 0) (length (filter b xs)) (length (filter a xs))
        (count_cons b x xs) (count_cons a x xs) rest alike
      where
        sum : (lb la bx ax br rb ra : ℕ) → lb ≡ bx + rb → la ≡ ax + ra → rb ≡ ra + br → bx ≡ ax → lb ≡ la + br
        sum lb la bx ax br rb ra e f g h = omega (arith, e, f, g, h)

pub fewer : (p b : Rid → Bool) (xs : List Rid) → length (filter (λ r. p r && b r) xs) ≤ length (filter p xs)
fewer p b [] = omega arith
fewer p b (x ∷ xs) = go (p x) (b x) (fewer p b xs)
  where
    go : (u v : Bool) → length (filter (λ r. p r && b r) xs) ≤ length (filter p xs) →
        length (cond (u && v) (x ∷ filter (λ r. p r && b r) xs) (filter (λ r. p r && b r) xs)) ≤ length (cond u (x ∷ filter p xs) (filter p xs))
    go true true h = omega (arith, h)
    go true false h = omega (arith, h)
    go false v h = h
