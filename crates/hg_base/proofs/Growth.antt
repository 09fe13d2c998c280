-- What holds of the lines so far is kept by each new line.
use Rattle.std.proofs.Common.{◌≡◌, ℕ, zero, suc, ◌+◌, ◌<◌, ◌≤◌, ◌⊎◌, inl, inr, List, [], ◌∷◌, ◌++◌, length, map, false, Option, Some, None, refl, sym, ap, ◌∙◌, subst, arith}
use Rattle.std.specs.Prelude.{◌==◌, cond, filter_map, option_map, max}
use Rattle.std.specs.List.{cons_option}
use Rattle.std.proofs.lemmas.List.{map-append}
use Rattle.std.proofs.lemmas.List.Elements.{filter_map-append}
use Rattle.std.proofs.lemmas.Bool.Decides.{Decides-eqb}
use Rattle.hg_base.specs.declared.image.Image.{Image}
use Rattle.hg_base.specs.Lists.{Each, EachAfter, onto, numbers_from, greatest}
use Rattle.hg_base.specs.Script.{Mode}
use Rattle.hg_base.specs.History.{Commit, Group, History, EachGroup, IsGroup, IsHistory, NoLostUpdate, LosesNothing, writes, group_image}
use Rattle.hg_base.specs.Transcript.{Said, committed, commit_by, commit_of, commits, commits_from, greatest_commit, group_of, put_by_session, history_of}
use Rattle.hg_base.specs.Sound.{IsRight, AreRight}
use Rattle.hg_base.proofs.ListFacts.{cases, none_some, each_append, each_keeps, each_snoc, cons_option_append, append_nil, numbers_from_snoc, not_equal, moved_on}
use Rattle.hg_base.proofs.HistoryFacts.{writes_from_snoc}
use Rattle.hg_base.proofs.Extending.{extends_itself, extends_snoc, lines_step}

-- ---- the lines

pub commits_from_snoc : (earlier xs : List Said) (now : Said) → commits_from earlier (xs ++ now ∷ []) ≡ commits_from earlier xs ++ cons_option (commit_of (onto xs earlier) now) []
commits_from_snoc earlier [] now = refl
commits_from_snoc earlier (x ∷ xs) now = ap (cons_option (commit_of earlier x)) (commits_from_snoc (x ∷ earlier) xs now) ∙
    cons_option_append (commit_of earlier x) (commits_from (x ∷ earlier) xs) (cons_option (commit_of (onto xs (x ∷ earlier)) now) [])

-- ---- the greatest number

pub max_zero : (m : ℕ) → max m zero ≡ m
max_zero m = omega arith

pub max_right : (n m : ℕ) → n < m → max n m ≡ m
max_right n m h = omega (arith, h)

pub left_below : (n k m : ℕ) → max n k < m → n < m
left_below n k m h = omega (arith, h)

pub right_below : (n k m : ℕ) → max n k < m → k < m
right_below n k m h = omega (arith, h)

pub greatest_snoc : (ns : List ℕ) (m : ℕ) → greatest ns < m → greatest (ns ++ m ∷ []) ≡ m
greatest_snoc [] m h = max_zero m
greatest_snoc (n ∷ ns) m h = ap (max n) (greatest_snoc ns m (right_below n (greatest ns) m h)) ∙ max_right n m (left_below n (greatest ns) m h)

pub below_max_left : (c m : ℕ) → c < suc (max c m)
below_max_left c m = omega arith

pub below_max_right : (a c m : ℕ) → a < suc m → a < suc (max c m)
below_max_right a c m h = omega (arith, h)

-- with one number more, if there is one
pub below_one_more : (o : Option ℕ) (commit : Commit) (most : ℕ) (ns : List ℕ) → greatest ns ≡ most → (ps : List (ℕ × Commit)) → Each (λ p. p.0 < suc most) ps →
    Each (λ p. p.0 < suc (greatest (cons_option o ns))) (cons_option (option_map (λ c. (c, commit)) o) ps)
below_one_more None commit most ns e ps h = subst (λ m. Each (λ (p : ℕ × Commit). p.0 < suc m) ps) (sym e) h
below_one_more (Some c) commit most ns e ps h = (
  below_max_left c (greatest ns),
  each_keeps (λ (p : ℕ × Commit). p.0 < suc most) (λ p. p.0 < suc (max c (greatest ns))) (λ p k. below_max_right p.0 c (greatest ns) (subst (λ m. p.0 < suc m) (sym e) k)) ps h,
)

-- every printed number is at most the greatest
pub commits_below : (earlier all : List Said) → Each (λ p. p.0 < suc (greatest (filter_map committed all))) (commits_from earlier all)
commits_below earlier [] = tt
commits_below earlier (now ∷ later) = below_one_more (committed now) (commit_by earlier now) (greatest (filter_map committed later)) (filter_map committed later) refl
    (commits_from (now ∷ earlier) later) (commits_below (now ∷ earlier) later)

-- ---- the history

pub group_of_other : (ps : List (ℕ × Commit)) (m : ℕ) (c : Commit) (n : ℕ) → (m == n) ≡ false → group_of (ps ++ (m, c) ∷ []) n ≡ group_of ps n
group_of_other [] m c n e = ap (λ b. cond b (c ∷ []) []) e
group_of_other (p ∷ ps) m c n e = ap (λ g. cond (p.0 == n) (put_by_session p.1 g) g) (group_of_other ps m c n e)

pub group_of_new : (ps : List (ℕ × Commit)) (m : ℕ) (c : Commit) → Each (λ p. p.0 < m) ps → group_of (ps ++ (m, c) ∷ []) m ≡ c ∷ []
group_of_new [] m c h = ap (λ b. cond b (c ∷ []) []) ((Decides-eqb m m).1 refl)
group_of_new (p ∷ ps) m c h = ap (λ b. cond b (put_by_session p.1 (group_of (ps ++ (m, c) ∷ []) m)) (group_of (ps ++ (m, c) ∷ []) m)) (not_equal p.0 m h.0) ∙ group_of_new ps m c h.1

pub one_more : (many : ℕ) → 1 + many ≡ suc many
one_more many = omega arith

pub above_differs : (m many : ℕ) → m < 1 + many → (suc many == m) ≡ false
above_differs m many h = cases (suc many == m) (λ same. absurd (let e : suc many ≡ m = (Decides-eqb (suc many) m).0 same in omega (arith, e, h))) (λ e. e)

pub conses_same : {X : Type 0} {x y : X} {xs ys : List X} → x ≡ y → xs ≡ ys → (x ∷ xs) ≡ (y ∷ ys)
conses_same e f = λ i. e i ∷ f i

-- what agrees on the numbers of a stretch
pub map_same : {Y : Type 0} (f g : ℕ → Y) (n many : ℕ) → ((m : ℕ) → m < n + many → f m ≡ g m) → map f (numbers_from n many) ≡ map g (numbers_from n many)
map_same f g n zero h = refl
map_same f g n (suc many) h =
    let first : n < n + suc many = omega arith in
    conses_same (h n first) (map_same f g (suc n) many (λ m k. h m (moved_on n many m k)))

pub history_length : (f : ℕ → Group) (n many : ℕ) → length (map f (numbers_from n many)) ≡ many
history_length f n zero = refl
history_length f n (suc many) = ap suc (history_length f (suc n) many)

-- as many groups as the greatest number
pub as_many : (all : List Said) → length (history_of all) ≡ greatest_commit all
as_many all = history_length (group_of (commits all)) 1 (greatest_commit all)

-- the history with the commit of the next number
pub history_new : (ps : List (ℕ × Commit)) (many : ℕ) (c : Commit) → Each (λ p. p.0 < suc many) ps →
    map (group_of (ps ++ (suc many, c) ∷ [])) (numbers_from 1 (suc many)) ≡ map (group_of ps) (numbers_from 1 many) ++ (c ∷ []) ∷ []
history_new ps many c h =
    ap (map (group_of (ps ++ (suc many, c) ∷ []))) (numbers_from_snoc 1 many ∙ ap (λ m. numbers_from 1 many ++ m ∷ []) (one_more many))
    ∙ map-append (group_of (ps ++ (suc many, c) ∷ [])) (numbers_from 1 many) (suc many ∷ [])
    ∙ ap (λ g. map (group_of (ps ++ (suc many, c) ∷ [])) (numbers_from 1 many) ++ g ∷ []) (group_of_new ps (suc many) c h)
    ∙ ap (λ gs. gs ++ (c ∷ []) ∷ []) (map_same (group_of (ps ++ (suc many, c) ∷ [])) (group_of ps) 1 many (λ m k. group_of_other ps (suc many) c m (above_differs m many k)))

-- ---- a line that prints no commit

pub no_commit : (earlier : List Said) (now : Said) → committed now ≡ None → commit_of earlier now ≡ None
no_commit earlier now e = ap (option_map (λ c. (c, commit_by earlier now))) e

pub commits_same : (all : List Said) (new : Said) → committed new ≡ None → commits (all ++ new ∷ []) ≡ commits all
commits_same all new e = commits_from_snoc [] all new ∙ ap (λ o. commits all ++ cons_option o []) (no_commit (onto all []) new e) ∙ append_nil (commits all)

pub greatest_same : (all : List Said) (new : Said) → committed new ≡ None → greatest_commit (all ++ new ∷ []) ≡ greatest_commit all
greatest_same all new e = ap greatest (filter_map-append committed all (new ∷ []) ∙ ap (λ o. filter_map committed all ++ cons_option o []) e ∙ append_nil (filter_map committed all))

pub history_same : (all : List Said) (new : Said) → committed new ≡ None → history_of (all ++ new ∷ []) ≡ history_of all
history_same all new e = λ i. map (group_of (commits_same all new e i)) (numbers_from 1 (greatest_same all new e i))

pub plain_stays : (mode : Mode) (all : List Said) (new : Said) → AreRight mode all → committed new ≡ None → IsRight mode (history_of all) (all ++ new ∷ []) (onto all []) new →
    AreRight mode (all ++ new ∷ [])
plain_stays mode all new s e line =
    let back : history_of all ≡ history_of (all ++ new ∷ []) = sym (history_same all new e) in
    record {
      whole = record {
        numbers = subst (Each (λ (p : ℕ × Commit). 1 ≤ p.0)) (sym (commits_same all new e)) s.whole.numbers;
        history = subst IsHistory back s.whole.history;
      };
      kept = subst NoLostUpdate back s.kept;
      lines = let P : History → Type 0 = λ h. EachAfter (IsRight mode h (all ++ new ∷ [])) [] (all ++ new ∷ []) in
          subst P back (lines_step mode (history_of all) (history_of all) all new (extends_itself (history_of all)) (λ c f. absurd (none_some (committed new) c e f)) s.lines line);
    }

-- ---- a line that prints the next commit

pub below_at_most : (n m : ℕ) → n < m → n ≤ m
below_at_most n m h = omega (arith, h)

-- the write of the new group, if there is one
pub new_number : (n : ℕ) (Q : ℕ → Type 0) (m : ℕ) (o : Option Image) → n ≤ m → Each (λ (other : ℕ × Image). Q other.0 ⊎ (n ≤ other.0)) (cons_option (option_map (λ image. (m, image)) o) [])
new_number n Q m None k = tt
new_number n Q m (Some image) k = (inr k, tt)

pub each_group_snoc : (P : ℕ → Group → Type 0) (n : ℕ) (h : History) (g : Group) → EachGroup P n h → P (n + length h) g → EachGroup P n (h ++ g ∷ [])
each_group_snoc P n [] g s p = let e : n + zero ≡ n = omega arith in (subst (λ m. P m g) e p, tt)
each_group_snoc P n (f ∷ fs) g s p = let e : n + suc (length fs) ≡ suc n + length fs = omega arith in (s.0, each_group_snoc P (suc n) fs g s.1 (subst (λ m. P m g) e p))

pub each_group_keeps : (P Q : ℕ → Group → Type 0) (n : ℕ) (h : History) → ((m : ℕ) (g : Group) → m < n + length h → P m g → Q m g) → EachGroup P n h → EachGroup Q n h
each_group_keeps P Q n [] f s = tt
each_group_keeps P Q n (g ∷ gs) f s = let k : n < n + suc (length gs) = omega arith in (f n g k s.0, each_group_keeps P Q (suc n) gs (λ m x j. f m x (moved_on n (length gs) m j)) s.1)

pub kept_snoc : (h : History) (c : Commit) → NoLostUpdate h → LosesNothing h c → NoLostUpdate (h ++ (c ∷ []) ∷ [])
kept_snoc h c s l =
    each_group_snoc _ 1 h (c ∷ [])
    (each_group_keeps _ _ 1 h (λ n g k. each_keeps _ _ (λ d. each_keeps _ _ (λ w t.
    let P : List (ℕ × Image) → Type 0 = Each (λ other. (other.0 ≤ d.at) ⊎ (n ≤ other.0)) in
    subst P (sym (writes_from_snoc 1 h (c ∷ []) w.rid)) (each_append (λ other. (other.0 ≤ d.at) ⊎ (n ≤ other.0)) (writes h w.rid) _ t
    (new_number n (λ m. m ≤ d.at) (1 + length h) (group_image w.rid (c ∷ [])) (below_at_most n (1 + length h) k)))) d.images) g) s) (
      each_keeps _ _ (λ w t.
          let P : List (ℕ × Image) → Type 0 = Each (λ other. (other.0 ≤ c.at) ⊎ (1 + length h ≤ other.0)) in
          subst P (sym (writes_from_snoc 1 h (c ∷ []) w.rid)) (each_append (λ other. (other.0 ≤ c.at) ⊎ (1 + length h ≤ other.0)) (writes h w.rid) _
          (each_keeps _ _ (λ other k. inl k) (writes h w.rid) t) (new_number (1 + length h) (λ m. m ≤ c.at) (1 + length h) (group_image w.rid (c ∷ [])) (omega arith)))) c.images l,
      tt,
    )

pub later_number : (o : Option ℕ) (m d n : ℕ) → o ≡ Some m → o ≡ Some d → n < m → n < d
later_number o m d n e f k = let g : m ≡ d = cc in omega (arith, g, k)

-- the commits and the history with a line that prints the next number
pub commits_next : (all : List Said) (new : Said) (n : ℕ) → committed new ≡ Some n → commits (all ++ new ∷ []) ≡ commits all ++ (n, commit_by (onto all []) new) ∷ []
commits_next all new n e = commits_from_snoc [] all new ∙ ap (λ o. commits all ++ cons_option (option_map (λ c. (c, commit_by (onto all []) new)) o) []) e

pub greatest_next : (all : List Said) (new : Said) → committed new ≡ Some (suc (greatest_commit all)) → greatest_commit (all ++ new ∷ []) ≡ suc (greatest_commit all)
greatest_next all new e = ap greatest (filter_map-append committed all (new ∷ []) ∙ ap (λ o. filter_map committed all ++ cons_option o []) e) ∙
    greatest_snoc (filter_map committed all) (suc (greatest_commit all)) (omega arith)

pub history_next_of : (all : List Said) (new : Said) → committed new ≡ Some (suc (greatest_commit all)) → history_of (all ++ new ∷ []) ≡ history_of all ++ (commit_by (onto all []) new ∷ []) ∷ []
history_next_of all new e =
    (λ i. map (group_of (commits_next all new (suc (greatest_commit all)) e i)) (numbers_from 1 (greatest_next all new e i)))
    ∙ history_new (commits all) (greatest_commit all) (commit_by (onto all []) new) (commits_below [] all)

pub next_number : (all : List Said) (new : Said) → committed new ≡ Some (suc (length (history_of all))) → committed new ≡ Some (suc (greatest_commit all))
next_number all new e = e ∙ ap (λ n. Some (suc n)) (as_many all)

pub history_next : (all : List Said) (new : Said) → committed new ≡ Some (suc (length (history_of all))) → history_of (all ++ new ∷ []) ≡ history_of all ++ (commit_by (onto all []) new ∷ []) ∷ []
history_next all new e = history_next_of all new (next_number all new e)

pub commit_stays : (mode : Mode) (all : List Said) (new : Said) → AreRight mode all → committed new ≡ Some (suc (length (history_of all))) →
    IsGroup (suc (length (history_of all))) (commit_by (onto all []) new ∷ []) → LosesNothing (history_of all) (commit_by (onto all []) new) →
    IsRight mode (history_of all ++ (commit_by (onto all []) new ∷ []) ∷ []) (all ++ new ∷ []) (onto all []) new → AreRight mode (all ++ new ∷ [])
commit_stays mode all new s e group loses line =
    let h = history_of all in
    let c = commit_by (onto all []) new in
    let n : ℕ = suc (length h) in
    let back : h ++ (c ∷ []) ∷ [] ≡ history_of (all ++ new ∷ []) = sym (history_next all new e) in
    let one : n ≡ 1 + length h = omega arith in
    record {
      whole = record {
        numbers = subst (Each (λ (p : ℕ × Commit). 1 ≤ p.0)) (sym (commits_next all new n e)) (each_snoc (λ p. 1 ≤ p.0) (commits all) (n, c) s.whole.numbers (omega arith));
        history = subst IsHistory back (each_group_snoc IsGroup 1 h (c ∷ []) s.whole.history (subst (λ m. IsGroup m (c ∷ [])) one group));
      };
      kept = subst NoLostUpdate back (kept_snoc h c s.kept loses);
      lines = let P : History → Type 0 = λ k. EachAfter (IsRight mode k (all ++ new ∷ [])) [] (all ++ new ∷ []) in
          subst P back (lines_step mode h (h ++ (c ∷ []) ∷ []) all new (extends_snoc h (c ∷ [])) (λ d f. later_number (committed new) n d (length h) e f (omega arith)) s.lines line);
    }
