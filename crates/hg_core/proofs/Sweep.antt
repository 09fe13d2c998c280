-- What a collector takes away is not what a protected snapshot sees, and what it leaves is in order.
use Rattle.std.proofs.Common.{◌≡◌, ℕ, zero, suc, ◌<◌, ◌≤◌, List, [], ◌∷◌, length, slice_index_or, Option, None, Some, Bool, true, false, ◌&&◌, ◌||◌, ◌⊎◌, inl, inr, refl, ◌∙◌, arith}
use Rattle.std.specs.Prelude.{if◌then◌else◌, nat_le, nat_lt, Contains, ⊤}
use Rattle.std.proofs.lemmas.Bool.Decides.{nat_tests}
use Rattle.hg_base.specs.declared.rid.Rid.{Rid}
use Rattle.hg_base.specs.declared.writer.Writer.{Writer}
use Rattle.hg_base.specs.declared.image.Image.{Image}
use Rattle.hg_base.specs.declared.value.Value.{Value}
use Rattle.hg_base.specs.History.{History, nothing, group_at, group_image}
use Rattle.hg_core.specs.declared.version.Stamp.{Stamp}
use Rattle.hg_core.specs.declared.version.Stamp.TheVariants.{Written, Numbered, Oldest}
use Rattle.hg_core.specs.declared.version.Version.{Version}
use Rattle.hg_core.specs.Versions.{stamp_number, is_up_to, first_at, paired, pair_of, newest_at, is_numbered, unpublished}
use Rattle.hg_core.specs.Removal.{swept, oldest, cut}
use Rattle.hg_base.specs.Lifetimes.{is_in_use, goes, IsGuarded}
use Rattle.hg_core.specs.Ordered.{Falls, IsOrdered, IsBacked}
use Rattle.hg_core.proofs.Versions.{falls_more}
use Rattle.hg_core.proofs.Backing.{image_backed}

-- ---- a sweep

-- s is below a number, where there is one
abbrev pub IsUnder : ℕ → Option ℕ → Type 0
IsUnder s None = ⊤
IsUnder s (Some u) = s < u

between : (s n u : ℕ) (snapshots : List ℕ) → Contains snapshots s → n ≤ s → s < u → is_in_use snapshots n u ≡ true
between s n u [] c a b = absurd (let k = c.1 in omega arith)
between s n u (x ∷ xs) c a b = go c.0 c.1 c.2 (λ k. between s n u xs k a b)
  where
    go : (k : ℕ) → k < length (x ∷ xs) → slice_index_or (x ∷ xs) k s ≡ s → (Contains xs s → is_in_use xs n u ≡ true) → ((nat_le n x && nat_lt x u) || is_in_use xs n u) ≡ true
    go zero below e later = let same : x ≡ s = e in grind (arith, nat_tests)
    go (suc k) below e later = let less : k < length xs = omega arith in let z = later (k, less, e) in rw z (or_true (nat_le n x && nat_lt x u))
      where
        or_true : (b : Bool) → (b || true) ≡ true
        or_true true = refl
        or_true false = refl

-- a version that s sees does not go
seen_stays : (horizon s : ℕ) (snapshots : List ℕ) (successor number : Option ℕ) → IsGuarded horizon snapshots s → IsUnder s successor → is_up_to s number ≡ true →
    goes horizon snapshots successor number ≡ false
seen_stays horizon s snapshots None number g b e = refl
seen_stays horizon s snapshots (Some u) None g b e = refl
seen_stays horizon s snapshots (Some u) (Some n) (inl g) b e = grind (arith, nat_tests)
seen_stays horizon s snapshots (Some u) (Some n) (inr g) b e = let k : is_in_use snapshots n u ≡ true = between s n u snapshots g (grind (arith, nat_tests)) b in rw k (grind (arith, nat_tests))

under_next : (s : ℕ) (number : Option ℕ) → is_up_to s number ≡ false → IsUnder s number
under_next s None e = tt
under_next s (Some n) e = grind (arith, nat_tests)

skipped : (s : ℕ) (v : Version) (vs : List Version) (b : Bool) → is_up_to s (stamp_number v.stamp) ≡ false → first_at s (if b then vs else v ∷ vs) ≡ first_at s vs
skipped s v vs true e = refl
skipped s v vs false e = rw e

pub swept_first : (horizon s : ℕ) (snapshots : List ℕ) (successor : Option ℕ) (vs : List Version) → IsGuarded horizon snapshots s → IsUnder s successor →
    first_at s (swept horizon snapshots successor vs) ≡ first_at s vs
swept_first horizon s snapshots successor [] g b = refl
swept_first horizon s snapshots successor (v ∷ vs) g b = go (is_up_to s (stamp_number v.stamp)) refl (λ k. swept_first horizon s snapshots (stamp_number v.stamp) vs g k)
  where
    go : (t : Bool) → is_up_to s (stamp_number v.stamp) ≡ t → (IsUnder s (stamp_number v.stamp) → first_at s (swept horizon snapshots (stamp_number v.stamp) vs) ≡ first_at s vs) →
        first_at s (swept horizon snapshots successor (v ∷ vs)) ≡ first_at s (v ∷ vs)
    go true e later = rw (seen_stays horizon s snapshots successor (stamp_number v.stamp) g b e, e)
    go false e later = rw e (skipped s v _ (goes horizon snapshots successor (stamp_number v.stamp)) e ∙ later (under_next s (stamp_number v.stamp) e))

-- ---- a cut

-- the same is seen; or it was a deletion at or below the bound, and nothing is left
abbrev pub IsKept : ℕ → Option (ℕ × Image) → Option (ℕ × Image) → Type 0
IsKept bound after before = (after ≡ before) ⊎ ((after ≡ None) × ((d : ℕ) × (before ≡ Some (d, nothing)) × (d ≤ bound)))

cut_step : (bound s : ℕ) (number : Option ℕ) (row : Option (List Value)) (rest : Option (ℕ × Image)) → is_up_to bound number ≡ true → bound ≤ s →
    IsKept bound (newest_at s (oldest number row)) (if is_up_to s number then paired number (record { row = row }) else rest)
cut_step bound s None None rest e h = cc
cut_step bound s None (Some row) rest e h = cc
cut_step bound s (Some n) None rest e h = let k : nat_le n s ≡ true = grind (arith, nat_tests) in let m : n ≤ bound = grind (arith, nat_tests) in rw k (inr (refl, (n, refl, m)))
cut_step bound s (Some n) (Some row) rest e h = let k : nat_le n s ≡ true = grind (arith, nat_tests) in rw k (inl refl)

pub pair_if : (b : Bool) (v : Version) (rest : Option Version) → pair_of (if b then Some v else rest) ≡ (if b then paired (stamp_number v.stamp) v.image else pair_of rest)
pair_if true v rest = refl
pair_if false v rest = refl

kept_if : (b : Bool) (bound : ℕ) (v : Version) (x y : Option Version) → IsKept bound (pair_of x) (pair_of y) → IsKept bound (pair_of (if b then Some v else x)) (pair_of (if b then Some v else y))
kept_if true bound v x y k = inl refl
kept_if false bound v x y k = k

pub cut_newest : (bound s : ℕ) (vs : List Version) → bound ≤ s → IsKept bound (newest_at s (cut bound vs)) (newest_at s vs)
cut_newest bound s [] h = inl refl
cut_newest bound s (v ∷ vs) h = go (is_up_to bound (stamp_number v.stamp)) refl (cut_newest bound s vs h)
  where
    go : (t : Bool) → is_up_to bound (stamp_number v.stamp) ≡ t → IsKept bound (newest_at s (cut bound vs)) (newest_at s vs) → IsKept bound (newest_at s (cut bound (v ∷ vs))) (newest_at s (v ∷ vs))
    go true e later = rw (e, pair_if (is_up_to s (stamp_number v.stamp)) v (first_at s vs)) (cut_step bound s (stamp_number v.stamp) v.image.row (newest_at s vs) e h)
    go false e later = rw e (kept_if (is_up_to s (stamp_number v.stamp)) bound v (first_at s (cut bound vs)) (first_at s vs) later)

-- ---- the order of what is left

falls_swept : (b horizon : ℕ) (snapshots : List ℕ) (successor : Option ℕ) (vs : List Version) → Falls b vs → Falls b (swept horizon snapshots successor vs)
falls_swept b horizon snapshots successor [] f = tt
falls_swept b horizon snapshots successor (v ∷ vs) f = go (goes horizon snapshots successor (stamp_number v.stamp)) (falls_swept f.0 horizon snapshots (stamp_number v.stamp) vs f.3)
  where
    go : (t : Bool) → Falls f.0 (swept horizon snapshots (stamp_number v.stamp) vs) →
        Falls b (if t then swept horizon snapshots (stamp_number v.stamp) vs else v ∷ swept horizon snapshots (stamp_number v.stamp) vs)
    go true later = falls_more f.0 b _ (omega (arith, f.2)) later
    go false later = (f.0, f.1, f.2, later)

falls_oldest : (b n : ℕ) (row : Option (List Value)) → n < b → Falls b (oldest (Some n) row)
falls_oldest b n None h = tt
falls_oldest b n (Some row) h = (n, refl, h, tt)

falls_cut : (b bound : ℕ) (vs : List Version) → Falls b vs → Falls b (cut bound vs)
falls_cut b bound [] f = tt
falls_cut b bound (v ∷ vs) f = go (is_up_to bound (stamp_number v.stamp)) (falls_cut f.0 bound vs f.3)
  where
    go : (t : Bool) → Falls f.0 (cut bound vs) → Falls b (if t then oldest (stamp_number v.stamp) v.image.row else v ∷ cut bound vs)
    go true later = rw f.1 (falls_oldest b f.0 v.image.row f.2)
    go false later = (f.0, f.1, f.2, later)

pub ordered_swept : (mark horizon : ℕ) (snapshots : List ℕ) (vs : List Version) → IsOrdered mark vs → IsOrdered mark (swept horizon snapshots None vs)
ordered_swept mark horizon snapshots [] f = tt
ordered_swept mark horizon snapshots (v ∷ vs) f = go v.stamp f
  where
    go : (x : Stamp) → IsOrdered mark (record { stamp = x; image = v.image } ∷ vs) → IsOrdered mark (record { stamp = x; image = v.image } ∷ swept horizon snapshots (stamp_number v.stamp) vs)
    go (Written by) f = falls_swept _ horizon snapshots _ vs f
    go (Numbered n by) f = (f.0, falls_swept _ horizon snapshots _ vs f.1)
    go (Oldest n) f = (f.0, falls_swept _ horizon snapshots _ vs f.1)

ordered_oldest : (mark n : ℕ) (row : Option (List Value)) → n ≤ mark → IsOrdered mark (oldest (Some n) row)
ordered_oldest mark n None h = tt
ordered_oldest mark n (Some row) h = (h, tt)

oldest_published : (mark n : ℕ) (row : Option (List Value)) → unpublished mark (oldest (Some n) row) ≡ None
oldest_published mark n None = refl
oldest_published mark n (Some row) = refl

-- a cut at or below the mark keeps the order and what isn't published
pub ordered_cut : (mark bound : ℕ) (vs : List Version) → bound ≤ mark → IsOrdered mark vs → (IsOrdered mark (cut bound vs)) × (unpublished mark (cut bound vs) ≡ unpublished mark vs)
ordered_cut mark bound [] h f = (tt, refl)
ordered_cut mark bound (v ∷ vs) h f = go v.stamp f
  where
    go : (x : Stamp) → IsOrdered mark (record { stamp = x; image = v.image } ∷ vs) → (IsOrdered mark (cut bound (record { stamp = x; image = v.image } ∷ vs))) ×
        (unpublished mark (cut bound (record { stamp = x; image = v.image } ∷ vs)) ≡ unpublished mark (record { stamp = x; image = v.image } ∷ vs))
    go (Written by) f = (falls_cut _ bound vs f, refl)
    go (Numbered n by) f = by_bound (nat_le n bound) refl
      where
        by_bound : (b : Bool) → nat_le n bound ≡ b → (IsOrdered mark (if b then oldest (Some n) v.image.row else record { stamp = Numbered n by; image = v.image } ∷ cut bound vs))
            × (unpublished mark (if b then oldest (Some n) v.image.row else record { stamp = Numbered n by; image = v.image } ∷ cut bound vs) ≡ (if nat_le n mark then None else Some (by, v.image)))
        by_bound true e = let k : n ≤ mark = grind (arith, nat_tests) in let l : nat_le n mark ≡ true = grind (arith, nat_tests) in
            (ordered_oldest mark n v.image.row k, rw l (oldest_published mark n v.image.row))
        by_bound false e = ((f.0, falls_cut _ bound vs f.1), refl)
    go (Oldest n) f = by_bound (nat_le n bound)
      where
        by_bound : (b : Bool) → (IsOrdered mark (if b then oldest (Some n) v.image.row else record { stamp = Oldest n; image = v.image } ∷ cut bound vs)) ×
            (unpublished mark (if b then oldest (Some n) v.image.row else record { stamp = Oldest n; image = v.image } ∷ cut bound vs) ≡ None)
        by_bound true = (ordered_oldest mark n v.image.row f.0, oldest_published mark n v.image.row)
        by_bound false = ((f.0, falls_cut _ bound vs f.1), refl)

pub unpublished_swept : (mark horizon : ℕ) (snapshots : List ℕ) (vs : List Version) → unpublished mark (swept horizon snapshots None vs) ≡ unpublished mark vs
unpublished_swept mark horizon snapshots [] = refl
unpublished_swept mark horizon snapshots (v ∷ vs) = refl

-- ---- its numbers

pub numbered_swept : (horizon : ℕ) (snapshots : List ℕ) (vs : List Version) → is_numbered (swept horizon snapshots None vs) ≡ is_numbered vs
numbered_swept horizon snapshots [] = refl
numbered_swept horizon snapshots (v ∷ vs) = refl

pub numbered_cut : (bound mark : ℕ) (vs : List Version) (w : Writer) (i : Image) → unpublished mark (cut bound vs) ≡ Some (w, i) → is_numbered (cut bound vs) ≡ is_numbered vs
numbered_cut bound mark [] w i o = refl
numbered_cut bound mark (v ∷ vs) w i o = go (is_up_to bound (stamp_number v.stamp)) o
  where
    left : (x : Option ℕ) (row : Option (List Value)) → unpublished mark (oldest x row) ≡ Some (w, i) → ⊥
    left None None o = cc
    left None (Some row) o = cc
    left (Some n) None o = cc
    left (Some n) (Some row) o = cc

    go : (b : Bool) → unpublished mark (if b then oldest (stamp_number v.stamp) v.image.row else v ∷ cut bound vs) ≡ Some (w, i) →
        is_numbered (if b then oldest (stamp_number v.stamp) v.image.row else v ∷ cut bound vs) ≡ is_numbered (v ∷ vs)
    go true o = absurd (left (stamp_number v.stamp) v.image.row o)
    go false o = refl

-- ---- and its images

pub backed_swept : (mark : ℕ) (h : History) (r : Rid) (horizon : ℕ) (snapshots : List ℕ) (successor : Option ℕ) (vs : List Version) → IsBacked mark h r vs →
    IsBacked mark h r (swept horizon snapshots successor vs)
backed_swept mark h r horizon snapshots successor [] b = tt
backed_swept mark h r horizon snapshots successor (v ∷ vs) b = go (goes horizon snapshots successor (stamp_number v.stamp)) (backed_swept mark h r horizon snapshots (stamp_number v.stamp) vs b.1)
  where
    go : (t : Bool) → IsBacked mark h r (swept horizon snapshots (stamp_number v.stamp) vs) →
        IsBacked mark h r (if t then swept horizon snapshots (stamp_number v.stamp) vs else v ∷ swept horizon snapshots (stamp_number v.stamp) vs)
    go true later = later
    go false later = (b.0, later)

backed_oldest : (mark : ℕ) (h : History) (r : Rid) (x : Option ℕ) (row : Option (List Value)) →
    ((n : ℕ) → x ≡ Some n → n ≤ mark → group_image r (group_at h n) ≡ Some (record { row = row })) → IsBacked mark h r (oldest x row)
backed_oldest mark h r None None f = tt
backed_oldest mark h r None (Some row) f = tt
backed_oldest mark h r (Some n) None f = tt
backed_oldest mark h r (Some n) (Some row) f = (f n refl, tt)

pub backed_cut : (mark : ℕ) (h : History) (r : Rid) (bound : ℕ) (vs : List Version) → IsBacked mark h r vs → IsBacked mark h r (cut bound vs)
backed_cut mark h r bound [] b = tt
backed_cut mark h r bound (v ∷ vs) b = go (is_up_to bound (stamp_number v.stamp)) (backed_cut mark h r bound vs b.1)
  where
    go : (t : Bool) → IsBacked mark h r (cut bound vs) → IsBacked mark h r (if t then oldest (stamp_number v.stamp) v.image.row else v ∷ cut bound vs)
    go true later = backed_oldest mark h r (stamp_number v.stamp) v.image.row (image_backed mark h r v.stamp v.image b.0)
    go false later = (b.0, later)
