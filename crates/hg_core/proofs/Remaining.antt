-- What a bucket holds in the end: one version for each of its records that is a row.
use Rattle.std.proofs.Common.{◌≡◌, ℕ, suc, ◌+◌, List, [], ◌∷◌, ◌++◌, length, Bool, true, false, not, Some, None, refl, sym, ap, ◌∙◌, subst, arith}
use Rattle.std.specs.Prelude.{◌==◌, ◌||◌, map, option_map, if◌then◌else◌, cond, filter, is_some, nat_le}
use Rattle.std.specs.List.{flat_map, cons_option}
use Rattle.std.specs.Option.{option_or}
use Rattle.std.proofs.lemmas.Bool.Decides.{Decides-eqb}
use Rattle.hg_base.specs.declared.rid.Rid.{Rid}
use Rattle.hg_base.specs.declared.image.Image.{Image}
use Rattle.hg_base.specs.Lists.{Each}
use Rattle.hg_base.specs.History.{Write, Group, History, same_rid, is_among, NoneTwice, image_in, rids_of, group_rids, group_image, writes_from, visible, nothing, last_image}
use Rattle.hg_base.specs.Counts.{once, live}
use Rattle.hg_base.proofs.HistoryFacts.{same_rid_equal, same_rid_itself}
use Rattle.hg_core.specs.declared.version.Version.{Version}
use Rattle.hg_core.specs.Contents.{Content, bucket_of, look, versions}
use Rattle.hg_core.specs.Versions.{unpublished}
use Rattle.hg_core.specs.Clean.{IsCutAt}
use Rattle.hg_core.specs.Counters.{total, is_of}
use Rattle.hg_core.specs.State.{CoreState}
use Rattle.hg_core.specs.Invariant.{IsSteady}
use Rattle.hg_core.proofs.Records.{turned_rid}
use Rattle.hg_core.proofs.Settling.{live_left, one_if}

-- ---- sums over records

unfoldable pub sum_over : (Rid → ℕ) → List Rid → ℕ
sum_over f [] = 0
sum_over f (r ∷ rs) = f r + sum_over f rs

pub left_false : (a b : Bool) → (a || b) ≡ false → a ≡ false
left_false true b e = e
left_false false b e = refl

pub right_false : (a b : Bool) → (a || b) ≡ false → b ≡ false
right_false true b e = cc
right_false false b e = e

pub same_rid_sym : (a b : Rid) → same_rid a b ≡ true → same_rid b a ≡ true
same_rid_sym a b e = turned_rid b a ∙ e

same_rid_not : (a b : Rid) → same_rid a b ≡ false → same_rid b a ≡ false
same_rid_not a b e = turned_rid b a ∙ e

same_rid_trans : (a b c : Rid) → same_rid a b ≡ true → same_rid b c ≡ true → same_rid a c ≡ true
same_rid_trans a b c e f = subst (λ x. same_rid x c ≡ true) (sym (same_rid_equal a b e)) f

-- ---- one content

over_same : (f g : Rid → ℕ) (rs : List Rid) → ((r : Rid) → f r ≡ g r) → sum_over f rs ≡ sum_over g rs
unfolding sum_over
over_same f g [] h = refl
over_same f g (r ∷ rs) h = omega (arith, h r, over_same f g rs h)

over_add : (f g : Rid → ℕ) (rs : List Rid) → sum_over (λ r. f r + g r) rs ≡ sum_over f rs + sum_over g rs
unfolding sum_over
over_add f g [] = omega arith
over_add f g (r ∷ rs) = omega (arith, over_add f g rs)

over_none : (f : Rid → ℕ) (rs : List Rid) → ((r : Rid) → f r ≡ 0) → sum_over f rs ≡ 0
unfolding sum_over
over_none f [] h = refl
over_none f (r ∷ rs) h = omega (arith, h r, over_none f rs h)

not_among : (k r : Rid) (rs : List Rid) → same_rid r k ≡ true → is_among r rs ≡ false → is_among k rs ≡ false
not_among k r [] e h = refl
not_among k r (x ∷ xs) e h = go (same_rid k x) refl (not_among k r xs e (right_false (same_rid r x) (is_among r xs) h))
  where
    go : (b : Bool) → same_rid k x ≡ b → is_among k xs ≡ false → (b || is_among k xs) ≡ false
    go true q ih = absurd (let y = same_rid_trans r k x e q in let z = left_false (same_rid r x) (is_among r xs) h in cc)
    go false q ih = ih

-- a record counts once where none stands twice
over_one : (k : Rid) (n : ℕ) (rs : List Rid) → NoneTwice rs → sum_over (λ r. if same_rid r k then n else 0) rs ≡ (if is_among k rs then n else 0)
unfolding sum_over
over_one k n [] h = refl
over_one k n (r ∷ rs) h = go (same_rid r k) refl (same_rid k r) refl (over_one k n rs h.1)
  where
    go : (b : Bool) → same_rid r k ≡ b → (c : Bool) → same_rid k r ≡ c → sum_over (λ r. if same_rid r k then n else 0) rs ≡ (if is_among k rs then n else 0) →
        (if b then n else 0) + sum_over (λ r. if same_rid r k then n else 0) rs ≡ (if (c || is_among k rs) then n else 0)
    go true e true f ih = let none : sum_over (λ r. if same_rid r k then n else 0) rs ≡ 0 = ih ∙ ap (λ b. if b then n else 0) (not_among k r rs e h.0) in omega (arith, none)
    go true e false f ih = absurd (let z = same_rid_sym r k e in cc)
    go false e true f ih = absurd (let z = same_rid_sym k r f in cc)
    go false e false f ih = omega (arith, ih)

look_none : (r : Rid) (es : Content) → is_among r (map (λ (e : Rid × List Version). e.0) es) ≡ false → look r es ≡ []
look_none r [] h = refl
look_none r (e ∷ es) h = ap (λ b. if b then e.1 else look r es) (left_false (same_rid r e.0) (is_among r (map (λ (e : Rid × List Version). e.0) es)) h) ∙
    look_none r es (right_false (same_rid r e.0) (is_among r (map (λ (e : Rid × List Version). e.0) es)) h)

-- a content's versions, record by record
pub content_total : (rs : List Rid) (es : Content) → NoneTwice rs → NoneTwice (map (λ (e : Rid × List Version). e.0) es) → ((r : Rid) → is_among r rs ≡ false → look r es ≡ []) →
    total es ≡ sum_over (λ r. length (look r es)) rs
unfolding sum_over
content_total rs [] once p out = sym (over_none (λ r. 0) rs (λ r. refl))
content_total rs (e ∷ es) once p out =
    let k : Rid = e.0 in
    let gone : look e.0 es ≡ [] = look_none e.0 es p.0 in
    let parts : (r : Rid) → length (look r (e ∷ es)) ≡ (if same_rid r k then length e.1 else 0) + length (look r es) = λ r. by_test r (same_rid r k) refl gone in
    let rest : total es ≡ sum_over (λ r. length (look r es)) rs = content_total rs es once p.1 (λ r h. later r (same_rid r k) refl gone (out r h)) in
    let one : sum_over (λ r. if same_rid r k then length e.1 else 0) rs ≡ (if is_among k rs then length e.1 else 0) = over_one k (length e.1) rs once in
    let here : (if is_among k rs then length e.1 else 0) ≡ length e.1 = counted (is_among k rs) refl in
    let split = over_same (λ r. length (look r (e ∷ es))) (λ r. (if same_rid r k then length e.1 else 0) + length (look r es)) rs parts ∙
    over_add (λ r. if same_rid r k then length e.1 else 0) (λ r. length (look r es)) rs in
    omega (arith, split, rest, one, here)
  where
    by_test : (r : Rid) (t : Bool) → same_rid r e.0 ≡ t → look e.0 es ≡ [] → length (if t then e.1 else look r es) ≡ (if t then length e.1 else 0) + length (look r es)
    by_test r true q gone = let none : length (look r es) ≡ 0 = ap (λ x. length (look x es)) (same_rid_equal (r) e.0 q) ∙ ap length gone in omega (arith, none)
    by_test r false q gone = omega arith

    later : (r : Rid) (t : Bool) → same_rid r e.0 ≡ t → look e.0 es ≡ [] → (if t then e.1 else look r es) ≡ [] → look r es ≡ []
    later r true q gone h = ap (λ x. look x es) (same_rid_equal (r) e.0 q) ∙ gone
    later r false q gone h = h

    counted : (t : Bool) → is_among (e.0) rs ≡ t → (if t then length e.1 else 0) ≡ length e.1
    counted true q = refl
    counted false q = sym (ap length (ap (λ b. if b then e.1 else look e.0 es) (sym (same_rid_itself e.0)) ∙ out (e.0) q))

pub placed_other : (m b : ℕ) (r : Rid) (es : Content) → Each (λ e. bucket_of m e.0 ≡ b) es → (bucket_of m r ≡ b → ⊥) → look r es ≡ []
placed_other m b r [] p ne = refl
placed_other m b r (e ∷ es) p ne = go (same_rid r e.0) refl (placed_other m b r es p.1 ne)
  where
    go : (t : Bool) → same_rid r e.0 ≡ t → look r es ≡ [] → (if t then e.1 else look r es) ≡ []
    go true q ih = absurd (ne (ap (bucket_of m) (same_rid_equal r e.0 q) ∙ p.0))
    go false q ih = ih

-- ---- each record once

pub filtered_out : (p : Rid → Bool) (k : Rid) (rs : List Rid) → is_among k rs ≡ false → is_among k (filter p rs) ≡ false
filtered_out p k [] h = refl
filtered_out p k (r ∷ rs) h = go (p r) (filtered_out p k rs (right_false (same_rid k r) (is_among k rs) h))
  where
    go : (b : Bool) → is_among k (filter p rs) ≡ false → is_among k (cond b (r ∷ filter p rs) (filter p rs)) ≡ false
    go true ih = ap (λ b. b || is_among k (filter p rs)) (left_false (same_rid k r) (is_among k rs) h) ∙ ih
    go false ih = ih

pub filtered_once : (p : Rid → Bool) (rs : List Rid) → NoneTwice rs → NoneTwice (filter p rs)
filtered_once p [] h = tt
filtered_once p (r ∷ rs) h = go (p r) (filtered_once p rs h.1)
  where
    go : (b : Bool) → NoneTwice (filter p rs) → NoneTwice (cond b (r ∷ filter p rs) (filter p rs))
    go true ih = (filtered_out p r rs h.0, ih)
    go false ih = ih

pub without_it : (k : Rid) (rs : List Rid) → is_among k (filter (λ other. not (same_rid other k)) rs) ≡ false
without_it k [] = refl
without_it k (r ∷ rs) = go (same_rid r k) refl (without_it k rs)
  where
    go : (b : Bool) → same_rid r k ≡ b → is_among k (filter (λ other. not (same_rid other k)) rs) ≡ false →
        is_among k (cond (not b) (r ∷ filter (λ other. not (same_rid other k)) rs) (filter (λ other. not (same_rid other k)) rs)) ≡ false
    go true e ih = ih
    go false e ih = ap (λ b. b || is_among k (filter (λ other. not (same_rid other k)) rs)) (same_rid_not r k e) ∙ ih

pub once_once : (rs : List Rid) → NoneTwice (once rs)
once_once [] = tt
once_once (r ∷ rs) = (without_it r (once rs), filtered_once (λ other. not (same_rid other r)) (once rs) (once_once rs))

-- what is not among the records that stand once is not among them at all
left_out : (k r : Rid) (rs : List Rid) → same_rid k r ≡ false → is_among k (filter (λ other. not (same_rid other r)) rs) ≡ false → is_among k rs ≡ false
left_out k r [] e h = refl
left_out k r (x ∷ xs) e h = go (same_rid x r) refl h (left_out k r xs e)
  where
    go : (b : Bool) → same_rid x r ≡ b → is_among k (cond (not b) (x ∷ filter (λ other. not (same_rid other r)) xs) (filter (λ other. not (same_rid other r)) xs)) ≡ false →
        (is_among k (filter (λ other. not (same_rid other r)) xs) ≡ false → is_among k xs ≡ false) → (same_rid k x || is_among k xs) ≡ false
    go true q h ih = other (same_rid k x) refl (ih h)
      where
        other : (c : Bool) → same_rid k x ≡ c → is_among k xs ≡ false → (c || is_among k xs) ≡ false
        other true p n = absurd (let z = same_rid_trans k x r p q in cc)
        other false p n = n
    go false q h ih = ap (λ c. c || is_among k xs) (left_false (same_rid k x) _ h) ∙ ih (right_false (same_rid k x) _ h)

not_once : (k : Rid) (rs : List Rid) → is_among k (once rs) ≡ false → is_among k rs ≡ false
not_once k [] h = refl
not_once k (r ∷ rs) h =
    let first : same_rid k r ≡ false = left_false (same_rid k r) _ h in
    ap (λ b. b || is_among k rs) first ∙ not_once k rs (left_out k r (once rs) first (right_false (same_rid k r) _ h))

-- the records that pass two tests, counted
filter_both : (p q : Rid → Bool) (rs : List Rid) → length (filter p (filter q rs)) ≡ sum_over (λ r. if q r then one_if (p r) else 0) rs
unfolding sum_over
filter_both p q [] = refl
filter_both p q (r ∷ rs) = go (q r) (p r) refl (filter_both p q rs)
  where
    go : (a b : Bool) → p r ≡ b → length (filter p (filter q rs)) ≡ sum_over (λ r. if q r then one_if (p r) else 0) rs →
        length (filter p (cond a (r ∷ filter q rs) (filter q rs))) ≡ (if a then one_if b else 0) + sum_over (λ r. if q r then one_if (p r) else 0) rs
    go true true e later = rw e (omega (arith, later))
    go true false e later = rw e (omega (arith, later))
    go false b e later = omega (arith, later)

-- ---- a record that no group writes

among_both : (r : Rid) (xs ys : List Rid) → is_among r (xs ++ ys) ≡ false → (is_among r xs ≡ false) × (is_among r ys ≡ false)
among_both r [] ys e = (refl, e)
among_both r (x ∷ xs) ys e =
    let rest = among_both r xs ys (right_false (same_rid r x) (is_among r (xs ++ ys)) e) in
    (ap (λ b. b || is_among r xs) (left_false (same_rid r x) (is_among r (xs ++ ys)) e) ∙ rest.0, rest.1)

no_image : (r : Rid) (ws : List Write) → is_among r (rids_of ws) ≡ false → image_in r ws ≡ None
no_image r [] e = refl
no_image r (w ∷ ws) e =
    let other : same_rid w.rid r ≡ false = turned_rid w.rid r ∙ left_false (same_rid r w.rid) (is_among r (rids_of ws)) e in
    ap (λ b. if b then Some w.image else image_in r ws) other ∙ no_image r ws (right_false (same_rid r w.rid) (is_among r (rids_of ws)) e)

no_write : (r : Rid) (group : Group) → is_among r (group_rids group) ≡ false → group_image r group ≡ None
no_write r [] e = refl
no_write r (c ∷ cs) e = let both = among_both r (rids_of c.images) (group_rids cs) e in ap (λ x. option_or x (group_image r cs)) (no_image r c.images both.0) ∙ no_write r cs both.1

no_writes : (n : ℕ) (h : History) (r : Rid) → is_among r (flat_map group_rids h) ≡ false → writes_from n h r ≡ []
no_writes n [] r e = refl
no_writes n (group ∷ groups) r e =
    let both = among_both r (group_rids group) (flat_map group_rids groups) e in
    ap (λ x. cons_option (option_map (λ image. (n, image)) x) (writes_from (suc n) groups r)) (no_write r group both.0) ∙ no_writes (suc n) groups r both.1

unseen : (h : History) (r : Rid) (n : ℕ) → is_among r (flat_map group_rids h) ≡ false → visible h r n ≡ nothing
unseen h r n e = ap (λ ws. last_image (filter (λ (w : ℕ × Image). nat_le w.0 n) ws)) (no_writes 1 h r e)

-- ---- a bucket

pub length_none : (vs : List Version) → length vs ≡ 0 → vs ≡ []
length_none [] e = refl
length_none (v ∷ vs) e = absurd (omega (arith, e))

pub rows_left : (s : CoreState) → IsSteady s → (b : ℕ) → ((r : Rid) → bucket_of s.buckets r ≡ b → (unpublished s.mark (versions s.buckets s.bucket r) ≡ None) ×
    IsCutAt s.mark (versions s.buckets s.bucket r)) → total (s.bucket b) ≡ length (filter (is_of s.buckets b) (live s.history))
rows_left s h b cut =
    let rs : List Rid = once (flat_map group_rids s.history) in
    let q : Rid → Bool = λ r. is_some (visible s.history r (length s.history)).row in
    content_total rs (s.bucket b) (once_once (flat_map group_rids s.history)) (h.contents_are_placed b).once
    (λ r e. none r (not_once r (flat_map group_rids s.history) e) (bucket_of s.buckets r == b) refl)
    ∙ over_same (λ r. length (look r (s.bucket b))) (λ r. if q r then one_if (is_of s.buckets b r) else 0) rs (λ r. each r (bucket_of s.buckets r == b) refl)
    ∙ sym (filter_both (is_of s.buckets b) q rs)
  where
    -- a record of the bucket
    mine : (r : Rid) → bucket_of s.buckets r ≡ b → length (look r (s.bucket b)) ≡ one_if (is_some (visible s.history r (length s.history)).row)
    mine r at =
        let was = cut r at in
        let now : length (versions s.buckets s.bucket r) ≡ one_if (is_some (visible s.history r s.mark).row) = live_left s h r was.0 was.1 in
        sym (ap (λ c. length (look r (s.bucket c))) at) ∙ now ∙ ap (λ n. one_if (is_some (visible s.history r n).row)) h.mark_is_length.is_length

    each : (r : Rid) (t : Bool) → (bucket_of s.buckets r == b) ≡ t →
        length (look r (s.bucket b)) ≡ (if is_some (visible s.history r (length s.history)).row then one_if (bucket_of s.buckets r == b) else 0)
    each r true e = mine r ((Decides-eqb (bucket_of s.buckets r) b).0 e) ∙ both (is_some (visible s.history r (length s.history)).row) (bucket_of s.buckets r == b) e
      where
        both : (x t : Bool) → t ≡ true → one_if x ≡ (if x then one_if t else 0)
        both true t e = sym (ap one_if e)
        both false t e = refl
    each r false e = ap length (placed_other s.buckets b r (s.bucket b) (h.contents_are_placed b).bucket
        (λ at. let z : (bucket_of s.buckets r == b) ≡ true = (Decides-eqb (bucket_of s.buckets r) b).1 at in cc)) ∙
        neither (is_some (visible s.history r (length s.history)).row) (bucket_of s.buckets r == b) e
      where
        neither : (x t : Bool) → t ≡ false → 0 ≡ (if x then one_if t else 0)
        neither true t e = sym (ap one_if e)
        neither false t e = refl

    none : (r : Rid) → is_among r (flat_map group_rids s.history) ≡ false → (t : Bool) → (bucket_of s.buckets r == b) ≡ t → look r (s.bucket b) ≡ []
    none r e true q = length_none (look r (s.bucket b)) (mine r ((Decides-eqb (bucket_of s.buckets r) b).0 q) ∙ ap (λ (i : Image). one_if (is_some i.row)) (unseen s.history r (length s.history) e))
    none r e false q = placed_other s.buckets b r (s.bucket b) (h.contents_are_placed b).bucket (λ at. let z : (bucket_of s.buckets r == b) ≡ true = (Decides-eqb (bucket_of s.buckets r) b).1 at in cc)
