-- What histories show, and that a group added at the end changes nothing below its number.
use Rattle.std.proofs.Common.{◌≡◌, ℕ, zero, suc, ◌+◌, ◌<◌, ◌≤◌, ◌⊎◌, inl, inr, List, [], ◌∷◌, ◌++◌, length, Bool, true, false, Option, Some, None, refl, sym, ap, ◌∙◌, subst, arith}
use Rattle.std.specs.Prelude.{◌==◌, ◌&&◌, filter, cond, unwrap_or, option_map, nat_le, is_some, IsSome, Contains}
use Rattle.std.specs.List.{cons_option}
use Rattle.std.specs.Option.{option_or}
use Rattle.std.proofs.lemmas.List.Elements.{filter-append}
use Rattle.std.proofs.lemmas.Bool.Decides.{Decides-eqb}
use Rattle.std.proofs.lemmas.Bool.{le-leb}
use Rattle.hg_base.specs.declared.rid.Rid.{Rid}
use Rattle.hg_base.specs.declared.image.Image.{Image}
use Rattle.hg_base.specs.Lists.{Each}
use Rattle.hg_base.specs.History.{Write, Commit, Group, History, EachGroup, group_from, group_at, same_rid, image_in, group_image, writes_from, writes, last_image, nothing, visible, seen}
use Rattle.hg_base.specs.History.{NoLostUpdate}
use Rattle.hg_base.proofs.ListFacts.{cases, false_true, each_at, each_of_option, cons_option_append, append_nil, not_at_most}

-- ---- records

pub and_parts : (a b : Bool) → (a && b) ≡ true → (a ≡ true) × (b ≡ true)
and_parts true b e = (refl, e)
and_parts false b e = absurd (false_true e)

-- what has one table and one key is one record
pub same_rid_equal : (a b : Rid) → same_rid a b ≡ true → a ≡ b
same_rid_equal a b e =
    let parts = and_parts (a.table.0 == b.table.0) (a.key == b.key) e in
    let t : a.table.0 ≡ b.table.0 = (Decides-eqb a.table.0 b.table.0).0 parts.0 in
    let k : a.key ≡ b.key = (Decides-eqb a.key b.key).0 parts.1 in
    λ i. record { table = record { 0 = t i }; key = k i }

pub same_rid_itself : (r : Rid) → same_rid r r ≡ true
same_rid_itself r = ap (λ b. b && (r.key == r.key)) ((Decides-eqb r.table.0 r.table.0).1 refl) ∙ (Decides-eqb r.key r.key).1 refl

-- what holds of each record that is written holds of r, where it is written
pub written_each : (Q : Rid → Type 0) (ws : List Write) (r : Rid) → Each (λ w. Q w.rid) ws → IsSome (image_in r ws) → Q r
written_each Q [] r h s = absurd (false_true s)
written_each Q (w ∷ ws) r h s =
    cases (same_rid w.rid r) (λ same. subst Q (same_rid_equal w.rid r same) h.0)
    (λ other. written_each Q ws r h.1 (ap (λ b. is_some (cond b (Some w.image) (image_in r ws))) (sym other) ∙ s))

-- ---- groups

pub each_group_at : (P : ℕ → Group → Type 0) (first : ℕ) (h : History) (n : ℕ) (c : Commit) → EachGroup P first h → Contains (group_from first h n) c → P n (group_from first h n)
each_group_at P first [] n c s (k, within, e) = absurd (omega (arith, within))
each_group_at P first (g ∷ gs) n c s m = go (first == n) refl (each_group_at P (suc first) gs n c s.1) m
  where
    go : (b : Bool) → (first == n) ≡ b → (Contains (group_from (suc first) gs n) c → P n (group_from (suc first) gs n)) → Contains (cond b g (group_from (suc first) gs n)) c →
        P n (cond b g (group_from (suc first) gs n))
    go true e later m = subst (λ k. P k g) ((Decides-eqb first n).0 e) s.0
    go false e later m = later m

pub some_or : (o p : Option Image) → IsSome o ⊎ IsSome p → IsSome (option_or o p)
some_or None p (inl s) = absurd (false_true s)
some_or None p (inr s) = s
some_or (Some image) p s = refl

-- a group of which a commit writes r writes r
pub group_writes : (r : Rid) (g : Group) (c : Commit) → Contains g c → IsSome (image_in r c.images) → IsSome (group_image r g)
group_writes r [] c (k, within, e) s = absurd (omega (arith, within))
group_writes r (d ∷ ds) c (zero, within, e) s = some_or (image_in r d.images) (group_image r ds) (inl (subst (λ (x : Commit). IsSome (image_in r x.images)) (sym e) s))
group_writes r (d ∷ ds) c (suc k, within, e) s =
    let less : k < length ds = omega (arith, within) in
    some_or (image_in r d.images) (group_image r ds) (inr (group_writes r ds c (k, less, e) s))

pub first_number : (Q : ℕ → Type 0) (n : ℕ) (o : Option Image) (rest : List (ℕ × Image)) → IsSome o → Each (λ w. Q w.0) (cons_option (option_map (λ image. (n, image)) o) rest) → Q n
first_number Q n None rest s h = absurd (false_true s)
first_number Q n (Some image) rest s h = h.0

-- what holds of every number whose group writes r holds of a commit's that writes r
pub number_of_write : (Q : ℕ → Type 0) (first : ℕ) (h : History) (m : ℕ) (c : Commit) (r : Rid) → Contains (group_from first h m) c → IsSome (image_in r c.images) →
    Each (λ w. Q w.0) (writes_from first h r) → Q m
number_of_write Q first [] m c r (k, within, e) s q = absurd (omega (arith, within))
number_of_write Q first (g ∷ gs) m c r at s q =
    go (first == m) refl (λ later. number_of_write Q (suc first) gs m c r later s
    (each_of_option (λ (w : ℕ × Image). Q w.0) (option_map (λ image. (first, image)) (group_image r g)) (writes_from (suc first) gs r) q)) at
  where
    go : (b : Bool) → (first == m) ≡ b → (Contains (group_from (suc first) gs m) c → Q m) → Contains (cond b g (group_from (suc first) gs m)) c → Q m
    go true e later at = subst Q ((Decides-eqb first m).0 e) (first_number Q first (group_image r g) (writes_from (suc first) gs r) (group_writes r g c at s) q)
    go false e later at = later at

pub at_most_or_later : (m n at : ℕ) → m < n → (m ≤ at) ⊎ (n ≤ m) → m ≤ at
at_most_or_later m n at h (inl k) = k
at_most_or_later m n at h (inr k) = absurd (omega (arith, h, k))

-- of two commits that write one record, the later one read at or over the earlier one's number
pub update_kept : (h : History) (m n : ℕ) (c d : Commit) (r : Rid) → NoLostUpdate h → Contains (group_at h m) c → Contains (group_at h n) d → IsSome (image_in r c.images) →
    IsSome (image_in r d.images) → m < n → m ≤ d.at
update_kept h m n c d r kept in_m in_n c_writes d_writes less =
    let Q : Rid → Type 0 = λ q. Each (λ other. (other.0 ≤ d.at) ⊎ (n ≤ other.0)) (writes h q) in
    let group = each_group_at (λ n group. Each (λ c. Each (λ w. Each (λ other. (other.0 ≤ c.at) ⊎ (n ≤ other.0)) (writes h w.rid)) c.images) group) 1 h n d kept in_n in
    let all : Q r = written_each Q d.images r (each_at (λ c. Each (λ w. Each (λ other. (other.0 ≤ c.at) ⊎ (n ≤ other.0)) (writes h w.rid)) c.images) (group_at h n) d group in_n) d_writes in
    at_most_or_later m n d.at less (number_of_write (λ k. (k ≤ d.at) ⊎ (n ≤ k)) 1 h m c r in_m c_writes all)

-- ---- what is visible

pub filter_none : (s : ℕ) (ws : List (ℕ × Image)) → Each (λ w. s < w.0) ws → filter (λ (w : ℕ × Image). nat_le w.0 s) ws ≡ []
filter_none s [] h = refl
filter_none s (w ∷ ws) h = ap (λ b. cond b (w ∷ filter (λ (v : ℕ × Image). nat_le v.0 s) ws) (filter (λ (v : ℕ × Image). nat_le v.0 s) ws)) (not_at_most w.0 s h.0) ∙ filter_none s ws h.1

pub none_visible : (h : History) (r : Rid) (s : ℕ) → Each (λ w. s < w.0) (writes h r) → visible h r s ≡ nothing
none_visible h r s late = ap last_image (filter_none s (writes h r) late)

pub last_of_more : (xs : List (ℕ × Image)) (w : ℕ × Image) → last_image (xs ++ w ∷ []) ≡ w.1
last_of_more [] w = refl
last_of_more (x ∷ []) w = refl
last_of_more (x ∷ y ∷ more) w = last_of_more (y ∷ more) w

pub last_visible : (h : History) (r : Rid) (s n : ℕ) (image : Image) (before after : List (ℕ × Image)) → writes h r ≡ before ++ (n, image) ∷ after → n ≤ s →
    Each (λ w. s < w.0) after → visible h r s ≡ image
last_visible h r s n image before after e within late =
    let p : ℕ × Image → Bool = λ w. nat_le w.0 s in
    ap last_image (ap (filter p) e ∙ filter-append p before ((n, image) ∷ after)
    ∙ ap (λ ws. filter p before ++ ws) (ap (λ b. cond b ((n, image) ∷ filter p after) (filter p after)) (le-leb n s within) ∙ ap (λ ws. (n, image) ∷ ws) (filter_none s after late)))
    ∙ last_of_more (filter p before) (n, image)

pub writes_from_snoc : (n : ℕ) (h : History) (g : Group) (r : Rid) → writes_from n (h ++ g ∷ []) r ≡ writes_from n h r ++ cons_option (option_map (λ image. (n + length h, image)) (group_image r g)) []
writes_from_snoc n [] g r = let e : n ≡ n + zero = omega arith in ap (λ m. cons_option (option_map (λ image. (m, image)) (group_image r g)) []) e
writes_from_snoc n (f ∷ fs) g r =
    let e : suc n + length fs ≡ n + suc (length fs) = omega arith in
    ap (cons_option (option_map (λ image. (n, image)) (group_image r f))) (writes_from_snoc (suc n) fs g r ∙
    ap (λ m. writes_from (suc n) fs r ++ cons_option (option_map (λ image. (m, image)) (group_image r g)) []) e)
    ∙ cons_option_append (option_map (λ image. (n, image)) (group_image r f)) (writes_from (suc n) fs r) (cons_option (option_map (λ image. (n + suc (length fs), image)) (group_image r g)) [])

-- a later group is not seen at a snapshot below its number
pub late_unseen : (m s : ℕ) (o : Option Image) → s < m → filter (λ (w : ℕ × Image). nat_le w.0 s) (cons_option (option_map (λ image. (m, image)) o) []) ≡ []
late_unseen m s None h = refl
late_unseen m s (Some image) h = ap (λ b. cond b ((m, image) ∷ []) []) (not_at_most m s h)

pub visible_stays : (h : History) (g : Group) (r : Rid) (s : ℕ) → s ≤ length h → visible (h ++ g ∷ []) r s ≡ visible h r s
visible_stays h g r s k =
    let p : ℕ × Image → Bool = λ w. nat_le w.0 s in
    let late : s < 1 + length h = omega arith in
    let new = cons_option (option_map (λ image. (1 + length h, image)) (group_image r g)) [] in
    ap last_image (ap (filter p) (writes_from_snoc 1 h g r) ∙ filter-append p (writes h r) new
    ∙ ap (λ ws. filter p (writes h r) ++ ws) (late_unseen (1 + length h) s (group_image r g) late) ∙ append_nil (filter p (writes h r)))

pub seen_stays : (h : History) (g : Group) (own : List Write) (at : ℕ) → at ≤ length h → seen (h ++ g ∷ []) own at ≡ seen h own at
seen_stays h g own at k = λ i r. unwrap_or (image_in r own) (visible_stays h g r at k i)
