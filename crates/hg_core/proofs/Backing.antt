-- What is published stays what the history writes.
use Rattle.std.proofs.Common.{◌≡◌, ℕ, suc, ◌+◌, ◌<◌, ◌≤◌, List, [], ◌∷◌, ◌++◌, length, None, Some, Bool, true, false, ◌==◌, refl, ap, ◌∙◌, subst, arith, sym, option_map}
use Rattle.std.specs.Prelude.{if◌then◌else◌, nat_le}
use Rattle.std.proofs.lemmas.Bool.Decides.{nat_tests}
use Rattle.hg_base.specs.declared.rid.Rid.{Rid}
use Rattle.hg_base.specs.declared.writer.Writer.{Writer}
use Rattle.hg_base.specs.declared.image.Image.{Image}
use Rattle.hg_base.specs.History.{Group, History, group_at, group_image}
use Rattle.hg_core.specs.declared.version.Stamp.{Stamp}
use Rattle.hg_core.specs.declared.version.Stamp.TheVariants.{Written, Numbered, Oldest}
use Rattle.hg_core.specs.declared.version.Version.{Version}
use Rattle.hg_core.specs.Versions.{stamp_number, is_numbered, unpublished_by, unpublished, installed, undone, stamped}
use Rattle.hg_core.specs.Ordered.{Falls, IsOrdered, IsWriteOf, IsBacked, group_write}
use Rattle.hg_core.proofs.Groups.{group_new, group_old}
use Rattle.hg_core.proofs.NewGroup.{write_image}

pub backed_installed : (mark : ℕ) (h : History) (r : Rid) (w : Writer) (image : Image) (vs : List Version) → IsBacked mark h r vs → IsBacked mark h r (installed w image vs)
backed_installed mark h r w image [] b = (tt, tt)
backed_installed mark h r w image (v ∷ vs) b = go v.stamp b
  where
    go : (x : Stamp) → IsBacked mark h r (record { stamp = x; image = v.image } ∷ vs) → IsBacked mark h r (installed w image (record { stamp = x; image = v.image } ∷ vs))
    go (Written by) b = (tt, b.1)
    go (Numbered k by) b = (tt, b)
    go (Oldest k) b = (tt, b)

pub backed_undone : (mark : ℕ) (h : History) (r : Rid) (vs : List Version) → IsBacked mark h r vs → IsBacked mark h r (undone vs)
backed_undone mark h r [] b = tt
backed_undone mark h r (v ∷ vs) b = b.1

pub backed_stamped : (mark : ℕ) (h : History) (r : Rid) (w : Writer) (vs : List Version) → IsBacked mark h r vs → IsBacked mark h r (stamped (suc mark) w vs)
backed_stamped mark h r w [] b = tt
backed_stamped mark h r w (v ∷ vs) b = ((λ l. absurd (omega arith)), b.1)

-- the group of a number writes the image, whoever wrote it
pub image_backed : (mark : ℕ) (h : History) (r : Rid) (stamp : Stamp) (image : Image) → IsWriteOf mark h r stamp image → (n : ℕ) → stamp_number stamp ≡ Some n → n ≤ mark →
    group_image r (group_at h n) ≡ Some image
image_backed mark h r (Written by) image b n e l = absurd (cc)
image_backed mark h r (Numbered k by) image b n e l = let same : k ≡ n = cc in
    subst (λ m. group_image r (group_at h m) ≡ Some image) same (sym (write_image r (group_at h k)) ∙ ap (option_map (λ (p : Writer × Image). p.1)) (b (omega (arith, l, same))))
image_backed mark h r (Oldest k) image b n e l = let same : k ≡ n = cc in subst (λ m. group_image r (group_at h m) ≡ Some image) same (b (omega (arith, l, same)))

-- ---- a group more

old_group : (mark : ℕ) (h : History) (g : Group) (n : ℕ) → mark ≡ length h → n ≤ mark → group_at (h ++ g ∷ []) n ≡ group_at h n
old_group mark h g n m l = let other : (n == 1 + length h) ≡ false = grind (arith, nat_tests) in group_old 1 h g n other

write_more : (mark : ℕ) (h : History) (g : Group) (r : Rid) (stamp : Stamp) (image : Image) → mark ≡ length h → ((n : ℕ) → stamp_number stamp ≡ Some n → n ≤ mark) →
    IsWriteOf mark h r stamp image → IsWriteOf (suc mark) (h ++ g ∷ []) r stamp image
write_more mark h g r (Written by) image m low f = tt
write_more mark h g r (Numbered n by) image m low f = λ l. ap (group_write r) (old_group mark h g n m (low n refl)) ∙ f (low n refl)
write_more mark h g r (Oldest n) image m low f = λ l. ap (group_image r) (old_group mark h g n m (low n refl)) ∙ f (low n refl)

backed_falling : (mark b : ℕ) (h : History) (g : Group) (r : Rid) (vs : List Version) → mark ≡ length h → b ≤ suc mark → Falls b vs → IsBacked mark h r vs → IsBacked (suc mark) (h ++ g ∷ []) r vs
backed_falling mark b h g r [] m le f k = tt
backed_falling mark b h g r (v ∷ vs) m le f k = (
  write_more mark h g r v.stamp v.image m (λ n e. let same : f.0 ≡ n = (let z = f.1 in cc) in omega (arith, f.2)) k.0,
  backed_falling mark f.0 h g r vs m (omega (arith, f.2)) f.3 k.1,
)

pub backed_published : (mark : ℕ) (h : History) (g : Group) (r : Rid) (vs : List Version) → mark ≡ length h → IsOrdered mark vs →
    ((w : Writer) (i : Image) → unpublished mark vs ≡ Some (w, i) → is_numbered vs ≡ true → group_write r g ≡ Some (w, i)) → IsBacked mark h r vs → IsBacked (suc mark) (h ++ g ∷ []) r vs
backed_published mark h g r [] m f new b = tt
backed_published mark h g r (v ∷ vs) m f new b = go v.stamp f new b
  where
    go : (x : Stamp) → IsOrdered mark (record { stamp = x; image = v.image } ∷ vs) →
        ((w : Writer) (i : Image) → unpublished_by mark x v.image ≡ Some (w, i) → is_numbered (record { stamp = x; image = v.image } ∷ vs) ≡ true → group_write r g ≡ Some (w, i)) →
        IsBacked mark h r (record { stamp = x; image = v.image } ∷ vs) → IsBacked (suc mark) (h ++ g ∷ []) r (record { stamp = x; image = v.image } ∷ vs)
    go (Written by) f new b = (tt, backed_falling mark (suc mark) h g r vs m (omega arith) f b.1)
    go (Oldest k) f new b = (write_more mark h g r (Oldest k) v.image m (λ n e. let same : k ≡ n = cc in omega (arith, f.0)) b.0, backed_falling mark k h g r vs m (omega (arith, f.0)) f.1 b.1)
    go (Numbered k by) f new b = (by_mark (nat_le k mark) refl new, backed_falling mark k h g r vs m f.0 f.1 b.1)
      where
        by_mark : (c : Bool) → nat_le k mark ≡ c → ((w : Writer) (i : Image) → (let p : Writer × Image = (by, v.image) in if c then None else Some p) ≡ Some (w, i) → true ≡ true →
            group_write r g ≡ Some (w, i)) → IsWriteOf (suc mark) (h ++ g ∷ []) r (Numbered k by) v.image
        by_mark true q new = write_more mark h g r (Numbered k by) v.image m (λ n e. let same : k ≡ n = cc in let le : k ≤ mark = grind (arith, nat_tests) in omega arith) b.0
        by_mark false q new = λ l.
            let over : mark < k = grind (arith, nat_tests) in
            let top : 1 + length h ≡ k = omega (arith, f.0) in
            ap (group_write r) (subst (λ x. group_at (h ++ g ∷ []) x ≡ g) top (group_new 1 h g)) ∙ new by v.image refl refl
