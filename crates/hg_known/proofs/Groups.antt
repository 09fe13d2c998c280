-- What is visible and what is written, by what each group writes.
use Rattle.std.proofs.Common.{◌≡◌, ℕ, suc, ◌<◌, ◌≤◌, List, [], ◌∷◌, ◌++◌, Bool, true, false, Option, Some, None, refl, sym, ap, ◌∙◌, subst, arith}
use Rattle.std.specs.Prelude.{◌==◌, ◌||◌, filter, cond, option_map, nat_le, is_some}
use Rattle.std.specs.List.{cons_option, list_any}
use Rattle.std.proofs.lemmas.Bool.Decides.{Decides-eqb}
use Rattle.std.proofs.lemmas.Bool.{le-leb, leb-true, leb-false}
use Rattle.hg_base.specs.declared.rid.Rid.{Rid}
use Rattle.hg_base.specs.declared.image.Image.{Image}
use Rattle.hg_base.specs.History.{Group, History, group_from, group_at, group_image, writes_from, last_image, nothing, visible, does_write}
use Rattle.hg_base.proofs.ListFacts.{cases, none_some}
use Rattle.hg_base.proofs.HistoryFacts.{last_of_more}

abbrev pub up_to : ℕ → ℕ × Image → Bool
up_to s w = nat_le w.0 s

-- no group has a number below the first
pub below_first : (first : ℕ) (h : History) (n : ℕ) → n < first → group_from first h n ≡ []
below_first first [] n k = refl
below_first first (g ∷ gs) n k =
    cases (first == n) (λ same. absurd (let e = (Decides-eqb first n).0 same in omega (arith, k, e)))
    (λ other. ap (λ b. cond b g (group_from (suc first) gs n)) other ∙ below_first (suc first) gs n (omega arith))

-- what holds of the group of a number, and of none, holds of the group of that number among the later ones
pub later : (P : Group → Type 0) (first : ℕ) (g : Group) (gs : History) (n : ℕ) → P [] → P (group_from first (g ∷ gs) n) → P (group_from (suc first) gs n)
later P first g gs n nil h =
    cases (first == n)
    (λ same. subst P (sym (below_first (suc first) gs n (let e = (Decides-eqb first n).0 same in omega (arith, e)))) nil)
    (λ other. subst P (ap (λ b. cond b g (group_from (suc first) gs n)) other) h)

abbrev pub IsOut : Rid → Group → Type 0
IsOut r g = group_image r g ≡ None

-- a write that is not numbered at or below s is left out
pub left_out : (s n : ℕ) (o : Option Image) (rest : List (ℕ × Image)) → (n ≤ s → o ≡ None) → filter (up_to s) (cons_option (option_map (λ image. (n, image)) o) rest) ≡ filter (up_to s) rest
left_out s n None rest h = refl
left_out s n (Some image) rest h =
    cases (nat_le n s) (λ e. absurd (none_some (Some image) image (h (leb-true n s e)) refl))
    (λ e. ap (λ b. cond b ((n, image) ∷ filter (up_to s) rest) (filter (up_to s) rest)) e)

pub none_until : (s first : ℕ) (h : History) (r : Rid) → ((n : ℕ) → n ≤ s → IsOut r (group_from first h n)) → filter (up_to s) (writes_from first h r) ≡ []
none_until s first [] r h = refl
none_until s first (g ∷ gs) r h =
    left_out s first (group_image r g) (writes_from (suc first) gs r)
    (λ k. subst (IsOut r) (ap (λ b. cond b g (group_from (suc first) gs first)) ((Decides-eqb first first).1 refl)) (h first k))
    ∙ none_until s (suc first) gs r (λ n k. later (IsOut r) first g gs n refl (h n k))

-- the writes at or below s end with this one
abbrev pub EndsWith : List (ℕ × Image) → ℕ × Image → Type 0
EndsWith ws w = (before : List (ℕ × Image)) × (ws ≡ before ++ w ∷ [])

pub ends_later : (s n : ℕ) (o : Option Image) (rest : List (ℕ × Image)) (w : ℕ × Image) → EndsWith (filter (up_to s) rest) w →
    EndsWith (filter (up_to s) (cons_option (option_map (λ image. (n, image)) o) rest)) w
ends_later s n None rest w h = h
ends_later s n (Some image) rest w (before, e) = go (nat_le n s)
  where
    go : (b : Bool) → EndsWith (cond b ((n, image) ∷ filter (up_to s) rest) (filter (up_to s) rest)) w
    go true = ((n, image) ∷ before, ap (λ ws. (n, image) ∷ ws) e)
    go false = (before, e)

pub last_until : (s first : ℕ) (h : History) (r : Rid) (n : ℕ) (image : Image) → n ≤ s → group_image r (group_from first h n) ≡ Some image →
    ((m : ℕ) → n < m → m ≤ s → IsOut r (group_from first h m)) → EndsWith (filter (up_to s) (writes_from first h r)) (n, image)
last_until s first [] r n image k e after = absurd (none_some None image refl e)
last_until s first (g ∷ gs) r n image k e after = go (first == n) refl e (λ e. last_until s (suc first) gs r n image k e (λ m j l. later (IsOut r) first g gs m refl (after m j l)))
  where
    go : (b : Bool) → (first == n) ≡ b → group_image r (cond b g (group_from (suc first) gs n)) ≡ Some image →
        (group_image r (group_from (suc first) gs n) ≡ Some image → EndsWith (filter (up_to s) (writes_from (suc first) gs r)) (n, image)) →
        EndsWith (filter (up_to s) (writes_from first (g ∷ gs) r)) (n, image)
    go true same e more =
        let at : first ≡ n = (Decides-eqb first n).0 same in
        let low : first ≤ s = omega (arith, at, k) in
        let over : (m : ℕ) → m ≤ n → m < suc first = λ m q. omega (arith, q, at) in (
          [],
          ap (λ o. filter (up_to s) (cons_option (option_map (λ i. (first, i)) o) (writes_from (suc first) gs r))) e
              ∙ ap (λ b. cond b ((first, image) ∷ filter (up_to s) (writes_from (suc first) gs r)) (filter (up_to s) (writes_from (suc first) gs r))) (le-leb first s low)
              ∙ ap (λ ws. (first, image) ∷ ws) (none_until s (suc first) gs r (λ m j. cases (nat_le m n)
              (λ below. ap (group_image r) (below_first (suc first) gs m (over m (leb-true m n below))))
              (λ high. later (IsOut r) first g gs m refl (after m (leb-false m n high) j))))
              ∙ ap (λ x. (x, image) ∷ []) at,
        )
    go false other e more = ends_later s first (group_image r g) (writes_from (suc first) gs r) (n, image) (more e)

-- ---- the whole history

pub none_visible : (h : History) (r : Rid) (s : ℕ) → ((n : ℕ) → n ≤ s → IsOut r (group_at h n)) → visible h r s ≡ nothing
none_visible h r s f = ap last_image (none_until s 1 h r f)

pub last_visible : (h : History) (r : Rid) (s n : ℕ) (image : Image) → n ≤ s → group_image r (group_at h n) ≡ Some image → ((m : ℕ) → n < m → m ≤ s → IsOut r (group_at h m)) → visible h r s ≡ image
last_visible h r s n image k e after =
    let found = last_until s 1 h r n image k e after in
    ap last_image found.1 ∙ last_of_more found.0 (n, image)

pub any_from : (first : ℕ) (h : History) (r : Rid) (c : ℕ) → list_any (λ (w : ℕ × Image). w.0 == c) (writes_from first h r) ≡ is_some (group_image r (group_from first h c))
any_from first [] r c = refl
any_from first (g ∷ gs) r c = go (group_image r g) refl (first == c) refl (any_from (suc first) gs r c)
  where
    go : (o : Option Image) → group_image r g ≡ o → (b : Bool) → (first == c) ≡ b →
        list_any (λ (w : ℕ × Image). w.0 == c) (writes_from (suc first) gs r) ≡ is_some (group_image r (group_from (suc first) gs c)) →
        list_any (λ (w : ℕ × Image). w.0 == c) (cons_option (option_map (λ image. (first, image)) o) (writes_from (suc first) gs r)) ≡ is_some (group_image r (cond b g (group_from (suc first) gs c)))
    go (Some image) e true f more = ap (λ b. b || list_any (λ (w : ℕ × Image). w.0 == c) (writes_from (suc first) gs r)) f ∙ sym (ap is_some e)
    go (Some image) e false f more = ap (λ b. b || list_any (λ (w : ℕ × Image). w.0 == c) (writes_from (suc first) gs r)) f ∙ more
    go None e true f more =
        more
        ∙ ap (λ x. is_some (group_image r x)) (below_first (suc first) gs c (let q = (Decides-eqb first c).0 f in omega (arith, q)))
        ∙ sym (ap is_some e)
    go None e false f more = more

-- a group writes r exactly where it has an image of it
pub writes_it : (h : History) (r : Rid) (c : ℕ) → does_write h c r ≡ is_some (group_image r (group_at h c))
writes_it h r c = any_from 1 h r c
