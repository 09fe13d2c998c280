-- What an install, an undo, a stamp and a publish make of a record's versions.
use Rattle.std.proofs.Common.{◌≡◌, ℕ, suc, ◌≤◌, List, [], ◌∷◌, None, Some, true, false, refl, sym, ap, ◌∙◌, subst, arith}
use Rattle.std.specs.Prelude.{nat_le}
use Rattle.std.proofs.lemmas.Bool.Decides.{nat_tests}
use Rattle.hg_base.specs.declared.writer.Writer.{Writer}
use Rattle.hg_base.specs.declared.image.Image.{Image}
use Rattle.hg_core.specs.declared.version.Stamp.{Stamp}
use Rattle.hg_core.specs.declared.version.Stamp.TheVariants.{Written, Numbered, Oldest}
use Rattle.hg_core.specs.declared.version.Version.{Version}
use Rattle.hg_core.specs.Versions.{newest_at, is_numbered, unpublished_by, unpublished, installed, undone, stamped, IsFreeFor, IsOpenBy}
use Rattle.hg_core.specs.Ordered.{Falls, IsOrdered}

pub same_pair : (p q : Writer × Image) → Some p ≡ Some q → p ≡ q
same_pair p q e = cc

-- ---- an install

pub installed_newest : (n : ℕ) (w : Writer) (i : Image) (vs : List Version) → newest_at n (installed w i vs) ≡ newest_at n vs
installed_newest n w i [] = refl
installed_newest n w i (v ∷ vs) = go v.stamp
  where
    go : (x : Stamp) → newest_at n (installed w i (record { stamp = x; image = v.image } ∷ vs)) ≡ newest_at n (record { stamp = x; image = v.image } ∷ vs)
    go (Written by) = refl
    go (Numbered k by) = refl
    go (Oldest k) = refl

pub installed_unpublished : (mark : ℕ) (w : Writer) (i : Image) (vs : List Version) → unpublished mark (installed w i vs) ≡ Some (w, i)
installed_unpublished mark w i [] = refl
installed_unpublished mark w i (v ∷ vs) = go v.stamp
  where
    go : (x : Stamp) → unpublished mark (installed w i (record { stamp = x; image = v.image } ∷ vs)) ≡ Some (w, i)
    go (Written by) = refl
    go (Numbered k by) = refl
    go (Oldest k) = refl

pub installed_unnumbered : (w : Writer) (i : Image) (vs : List Version) → is_numbered (installed w i vs) ≡ false
installed_unnumbered w i [] = refl
installed_unnumbered w i (v ∷ vs) = go v.stamp
  where
    go : (x : Stamp) → is_numbered (installed w i (record { stamp = x; image = v.image } ∷ vs)) ≡ false
    go (Written by) = refl
    go (Numbered k by) = refl
    go (Oldest k) = refl

pub installed_ordered : (mark : ℕ) (w : Writer) (i : Image) (vs : List Version) → IsFreeFor mark w vs → IsOrdered mark vs → IsOrdered mark (installed w i vs)
installed_ordered mark w i [] f h = tt
installed_ordered mark w i (v ∷ vs) f h = go v.stamp f h
  where
    go : (x : Stamp) → IsFreeFor mark w (record { stamp = x; image = v.image } ∷ vs) → IsOrdered mark (record { stamp = x; image = v.image } ∷ vs) →
        IsOrdered mark (installed w i (record { stamp = x; image = v.image } ∷ vs))
    go (Written by) f h = h
    go (Numbered k by) f h = (k, refl, omega (arith, f), h.1)
    go (Oldest k) f h = (k, refl, omega (arith, h.0), h.1)

pub free_owner : (mark : ℕ) (w o : Writer) (i : Image) (vs : List Version) → IsFreeFor mark w vs → unpublished mark vs ≡ Some (o, i) → o ≡ w
free_owner mark w o i [] f e = cc
free_owner mark w o i (v ∷ vs) f e = go v.stamp f e
  where
    go : (x : Stamp) → IsFreeFor mark w (record { stamp = x; image = v.image } ∷ vs) → unpublished_by mark x v.image ≡ Some (o, i) → o ≡ w
    go (Written by) f e = sym (ap (λ x. x.0) (same_pair (by, v.image) (o, i) e)) ∙ f
    go (Numbered k by) f e = absurd (let p : nat_le k mark ≡ true = grind (arith, nat_tests) in let z = rw p at e in cc)
    go (Oldest k) f e = cc

-- ---- an open write in front

falls_ordered : (mark : ℕ) (vs : List Version) → Falls (suc mark) vs → (IsOrdered mark vs) × (unpublished mark vs ≡ None)
falls_ordered mark [] f = (tt, refl)
falls_ordered mark (v ∷ vs) f = go v.stamp f
  where
    go : (x : Stamp) → Falls (suc mark) (record { stamp = x; image = v.image } ∷ vs) → (IsOrdered mark (record { stamp = x; image = v.image } ∷ vs)) × (unpublished_by mark x v.image ≡ None)
    go (Written by) f = absurd (let e = f.1 in cc)
    go (Numbered k by) f = let same : f.0 ≡ k = (let e = f.1 in cc) in let p : nat_le k mark ≡ true = grind (arith, nat_tests, f.2) in ((omega (arith, f.2), subst (λ x. Falls x vs) same f.3), rw p)
    go (Oldest k) f = let same : f.0 ≡ k = (let e = f.1 in cc) in ((omega (arith, f.2), subst (λ x. Falls x vs) same f.3), refl)

-- what it means that the first version is an open write: what is left without it, and what it is with the next number
pub record IsOpened (mark : ℕ) (w : Writer) (vs : List Version) : Type 0 where
  pub newest_undone : (n : ℕ) → newest_at n (undone vs) ≡ newest_at n vs
  pub ordered_undone : IsOrdered mark (undone vs)
  pub none_undone : unpublished mark (undone vs) ≡ None
  pub image : Image
  pub owned : unpublished mark vs ≡ Some (w, image)
  pub unnumbered : is_numbered vs ≡ false
  pub newest_stamped : (n : ℕ) → n ≤ mark → newest_at n (stamped (suc mark) w vs) ≡ newest_at n vs
  pub ordered_stamped : IsOrdered mark (stamped (suc mark) w vs)
  pub owned_stamped : unpublished mark (stamped (suc mark) w vs) ≡ unpublished mark vs
  pub numbered_stamped : is_numbered (stamped (suc mark) w vs) ≡ true

pub opened_is : (mark : ℕ) (w : Writer) (vs : List Version) → IsOpenBy w vs → IsOrdered mark vs → IsOpened mark w vs
opened_is mark w [] o f = absurd o
opened_is mark w (v ∷ vs) o f = go v.stamp o f
  where
    go : (x : Stamp) → x ≡ Written w → IsOrdered mark (record { stamp = x; image = v.image } ∷ vs) → IsOpened mark w (record { stamp = x; image = v.image } ∷ vs)
    go (Numbered k by) o f = absurd (cc)
    go (Oldest k) o f = absurd (cc)
    go (Written by) o f =
        let rest = falls_ordered mark vs f in
        let same : by ≡ w = cc in
        let late : nat_le (suc mark) mark ≡ false = grind (arith, nat_tests) in
        record {
          newest_undone = λ n. refl;
          ordered_undone = rest.0;
          none_undone = rest.1;
          image = v.image;
          owned = ap (λ x. Some (x, v.image)) same;
          unnumbered = refl;
          newest_stamped = λ n l. let p : nat_le (suc mark) n ≡ false = grind (arith, nat_tests) in rw p;
          ordered_stamped = (omega arith, f);
          owned_stamped = rw late (ap (λ x. Some (x, v.image)) (sym same));
          numbered_stamped = refl;
        }

-- ---- the mark grows by one

pub falls_more : (b c : ℕ) (vs : List Version) → b ≤ c → Falls b vs → Falls c vs
falls_more b c [] h f = tt
falls_more b c (v ∷ vs) h f = (f.0, f.1, omega (arith, f.2), f.3)

pub ordered_next : (mark : ℕ) (vs : List Version) → IsOrdered mark vs → IsOrdered (suc mark) vs
ordered_next mark [] f = tt
ordered_next mark (v ∷ vs) f = go v.stamp f
  where
    go : (x : Stamp) → IsOrdered mark (record { stamp = x; image = v.image } ∷ vs) → IsOrdered (suc mark) (record { stamp = x; image = v.image } ∷ vs)
    go (Written by) f = falls_more (suc mark) _ vs (omega arith) f
    go (Numbered k by) f = (omega (arith, f.0), f.1)
    go (Oldest k) f = (omega (arith, f.0), f.1)

-- what isn't published then wasn't before, and has no number
pub unpublished_next : (mark : ℕ) (vs : List Version) (w : Writer) (i : Image) → IsOrdered mark vs → unpublished (suc mark) vs ≡ Some (w, i) → (unpublished mark vs ≡ Some (w, i)) ×
    (is_numbered vs ≡ false)
unpublished_next mark [] w i f o = cc
unpublished_next mark (v ∷ vs) w i f o = go v.stamp f o
  where
    go : (x : Stamp) → IsOrdered mark (record { stamp = x; image = v.image } ∷ vs) → unpublished_by (suc mark) x v.image ≡ Some (w, i) →
        (unpublished_by mark x v.image ≡ Some (w, i)) × (is_numbered (record { stamp = x; image = v.image } ∷ vs) ≡ false)
    go (Written by) f o = (o, refl)
    go (Numbered k by) f o = absurd (let p : nat_le k (suc mark) ≡ true = grind (arith, nat_tests, f.0) in let z = rw p at o in cc)
    go (Oldest k) f o = cc

pub unnumbered_same : (mark m : ℕ) (vs : List Version) → is_numbered vs ≡ false → unpublished m vs ≡ unpublished mark vs
unnumbered_same mark m [] n = refl
unnumbered_same mark m (v ∷ vs) n = go v.stamp n
  where
    go : (x : Stamp) → is_numbered (record { stamp = x; image = v.image } ∷ vs) ≡ false → unpublished_by m x v.image ≡ unpublished_by mark x v.image
    go (Written by) n = refl
    go (Numbered k by) n = cc
    go (Oldest k) n = refl
