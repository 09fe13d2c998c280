-- Two histories with the same commits of each session have as many live records.
use Rattle.std.proofs.Common.{◌≡◌, ℕ, suc, List, [], ◌∷◌, length, Bool, true, false, not, Option, Some, None, refl, sym, ap, ◌∙◌}
use Rattle.std.specs.Prelude.{◌||◌, cond, filter, if◌then◌else◌, is_some, option_map, nat_le}
use Rattle.std.specs.List.{flat_map, cons_option}
use Rattle.std.specs.Option.{option_or}
use Rattle.hg_base.specs.declared.rid.Rid.{Rid}
use Rattle.hg_base.specs.declared.image.Image.{Image}
use Rattle.hg_base.specs.History.{Write, Group, History, IsHistory, same_rid, is_among, NoneTwice, rids_of, group_rids, image_in, group_image, writes_from, writes, last_image, visible}
use Rattle.hg_base.specs.Counts.{once, live}
use Rattle.hg_base.proofs.HistoryFacts.{same_rid_equal, same_rid_itself}
use Rattle.hg_core.proofs.Remaining.{left_false as or_left, right_false as or_right, same_rid_sym, filtered_once, once_once}
use Rattle.hg_headline.proofs.Words.{true_false, any_append, is_any}
use Rattle.hg_headline.proofs.Same.{SameGroups, writes_same, length_same}

-- ---- lists in which none stands twice

-- whether a record is among those of a list that pass a test
among_filtered : (p : Rid → Bool) (k : Rid) (rs : List Rid) → is_among k (filter p rs) ≡ (if p k then is_among k rs else false)
among_filtered p k [] = go (p k)
  where
    go : (b : Bool) → false ≡ (if b then false else false)
    go true = refl
    go false = refl
among_filtered p k (r ∷ rs) = go (same_rid k r) refl (p r) refl (p k) refl (among_filtered p k rs)
  where
    go : (s : Bool) → same_rid k r ≡ s → (a : Bool) → p r ≡ a → (b : Bool) → p k ≡ b → is_among k (filter p rs) ≡ (if b then is_among k rs else false) →
        is_among k (cond a (r ∷ filter p rs) (filter p rs)) ≡ (if b then (s || is_among k rs) else false)
    go true e true f true g ih = ap (λ t. t || is_among k (filter p rs)) e
    go true e true f false g ih = absurd (true_false (sym f ∙ ap p (sym (same_rid_equal k r e)) ∙ g))
    go true e false f true g ih = absurd (true_false (sym g ∙ ap p (same_rid_equal k r e) ∙ f))
    go true e false f false g ih = ih
    go false e true f b g ih = ap (λ t. t || is_among k (filter p rs)) e ∙ ih
    go false e false f b g ih = ih

-- one record is taken out of a list in which none stands twice
take_one : (k : Rid) (rs : List Rid) → NoneTwice rs → is_among k rs ≡ true → suc (length (filter (λ o. not (same_rid o k)) rs)) ≡ length rs
take_one k [] n e = absurd (true_false (sym e))
take_one k (r ∷ rs) n e = go (same_rid r k) refl (λ q. take_one k rs n.1 q)
  where
    none_left : (xs : List Rid) → is_among k xs ≡ false → length (filter (λ o. not (same_rid o k)) xs) ≡ length xs
    none_left [] h = refl
    none_left (x ∷ xs) h = kept (same_rid x k) refl (none_left xs (or_right (same_rid k x) (is_among k xs) h))
      where
        kept : (b : Bool) → same_rid x k ≡ b → length (filter (λ o. not (same_rid o k)) xs) ≡ length xs →
            length (cond (not b) (x ∷ filter (λ o. not (same_rid o k)) xs) (filter (λ o. not (same_rid o k)) xs)) ≡ suc (length xs)
        kept true q ih = absurd (true_false (sym (same_rid_sym x k q) ∙ or_left (same_rid k x) (is_among k xs) h))
        kept false q ih = ap suc ih

    go : (b : Bool) → same_rid r k ≡ b → (is_among k rs ≡ true → suc (length (filter (λ o. not (same_rid o k)) rs)) ≡ length rs) →
        suc (length (cond (not b) (r ∷ filter (λ o. not (same_rid o k)) rs) (filter (λ o. not (same_rid o k)) rs))) ≡ suc (length rs)
    go true q ih = ap suc (none_left rs (ap (λ x. is_among x rs) (sym (same_rid_equal r k q)) ∙ n.0))
    go false q ih = ap suc (ih (rest (same_rid k r) refl e))
      where
        rest : (c : Bool) → same_rid k r ≡ c → (c || is_among k rs) ≡ true → is_among k rs ≡ true
        rest true f h = absurd (true_false (sym (same_rid_sym k r f) ∙ q))
        rest false f h = h

-- with the same records they are equally long
pub as_many_records : (xs ys : List Rid) → NoneTwice xs → NoneTwice ys → ((k : Rid) → is_among k xs ≡ is_among k ys) → length xs ≡ length ys
as_many_records [] [] n m f = refl
as_many_records [] (y ∷ ys) n m f = absurd (true_false (sym (f y ∙ ap (λ b. b || is_among y ys) (same_rid_itself y))))
as_many_records (x ∷ xs) ys n m f =
    let here : is_among x ys ≡ true = sym (f x) ∙ ap (λ b. b || is_among x xs) (same_rid_itself x) in
    ap suc (as_many_records xs (filter (λ o. not (same_rid o x)) ys) n.1 (filtered_once (λ o. not (same_rid o x)) ys m) (λ k. same k (same_rid k x) refl (f k)))
    ∙ take_one x ys m here
  where
    same : (k : Rid) (b : Bool) → same_rid k x ≡ b → (same_rid k x || is_among k xs) ≡ is_among k ys → is_among k xs ≡ is_among k (filter (λ o. not (same_rid o x)) ys)
    same k true e g = ap (λ q. is_among q xs) (same_rid_equal k x e) ∙ n.0 ∙ sym (among_filtered (λ o. not (same_rid o x)) k ys ∙ ap (λ b. if not b then is_among k ys else false) e)
    same k false e g = ap (λ b. b || is_among k xs) (sym e) ∙ g ∙ sym (among_filtered (λ o. not (same_rid o x)) k ys ∙ ap (λ b. if not b then is_among k ys else false) e)

-- ---- each record once

once_among : (k : Rid) (rs : List Rid) → is_among k (once rs) ≡ is_among k rs
once_among k [] = refl
once_among k (r ∷ rs) = go (same_rid k r) refl (among_filtered (λ other. not (same_rid other r)) k (once rs) ∙ ap (λ b. if not (same_rid k r) then b else false) (once_among k rs))
  where
    go : (b : Bool) → same_rid k r ≡ b → is_among k (filter (λ other. not (same_rid other r)) (once rs)) ≡ (if not (same_rid k r) then is_among k rs else false) →
        (b || is_among k (filter (λ other. not (same_rid other r)) (once rs))) ≡ (b || is_among k rs)
    go true e h = refl
    go false e h = h ∙ ap (λ b. if not b then is_among k rs else false) e

-- ---- records that a history writes

or_same : (a b : Bool) (n : ℕ) (o : Option Image) (rest : List (ℕ × Image)) → is_some o ≡ a → is_any rest ≡ b → is_any (cons_option (option_map (λ image. (n, image)) o) rest) ≡ (a || b)
or_same a b n None rest e f = f ∙ ap (λ x. x || b) e
or_same a b n (Some i) rest e f = ap (λ x. x || b) e

image_among : (r : Rid) (ws : List Write) → is_some (image_in r ws) ≡ is_among r (rids_of ws)
image_among r [] = refl
image_among r (w ∷ ws) = go (same_rid w.rid r) refl (same_rid r w.rid) refl (image_among r ws)
  where
    go : (a : Bool) → same_rid w.rid r ≡ a → (b : Bool) → same_rid r w.rid ≡ b → is_some (image_in r ws) ≡ is_among r (rids_of ws) →
        is_some (if a then Some w.image else image_in r ws) ≡ (b || is_among r (rids_of ws))
    go true e true f ih = refl
    go false e false f ih = ih
    go true e false f ih = absurd (true_false (sym (same_rid_sym w.rid r e) ∙ f))
    go false e true f ih = absurd (true_false (sym (same_rid_sym r w.rid f) ∙ e))

group_among : (r : Rid) (g : Group) → is_some (group_image r g) ≡ is_among r (group_rids g)
group_among r [] = refl
group_among r (c ∷ cs) = go (image_in r c.images) (image_among r c.images) (group_among r cs) ∙ sym (any_append (same_rid r) (rids_of c.images) (group_rids cs))
  where
    go : (o : Option Image) → is_some o ≡ is_among r (rids_of c.images) → is_some (group_image r cs) ≡ is_among r (group_rids cs) →
        is_some (option_or o (group_image r cs)) ≡ (is_among r (rids_of c.images) || is_among r (group_rids cs))
    go None e ih = ih ∙ ap (λ b. b || is_among r (group_rids cs)) e
    go (Some i) e ih = ap (λ b. b || is_among r (group_rids cs)) e

history_among : (n : ℕ) (h : History) (r : Rid) → is_any (writes_from n h r) ≡ is_among r (flat_map group_rids h)
history_among n [] r = refl
history_among n (g ∷ gs) r = or_same (is_among r (group_rids g)) (is_among r (flat_map group_rids gs)) n (group_image r g) (writes_from (suc n) gs r) (group_among r g)
    (history_among (suc n) gs r) ∙ sym (any_append (same_rid r) (group_rids g) (flat_map group_rids gs))

pub lives_same : (h k : History) → SameGroups h k → IsHistory h → length (live h) ≡ length (live k)
lives_same h k s i =
    let row : History → Rid → Bool = λ f r. is_some (visible f r (length f)).row in
    as_many_records (live h) (live k) (filtered_once (row h) (once (flat_map group_rids h)) (once_once (flat_map group_rids h)))
    (filtered_once (row k) (once (flat_map group_rids k)) (once_once (flat_map group_rids k)))
    (λ r. let same : writes h r ≡ writes k r = writes_same 1 h k r s i in
    among_filtered (row h) r (once (flat_map group_rids h))
    ∙ (λ z. if (is_some (last_image (filter (λ (w : ℕ × Image). nat_le w.0 (length_same h k s z)) (same z))).row) then
    ((once_among r (flat_map group_rids h) ∙ sym (history_among 1 h r) ∙ ap is_any same ∙ history_among 1 k r ∙ sym (once_among r (flat_map group_rids k))) z) else false)
    ∙ sym (among_filtered (row k) r (once (flat_map group_rids k))))

-- ---- the live records of a history
