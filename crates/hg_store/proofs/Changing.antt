-- What changes of the versions of a record changes alike in what a bucket keeps.
use Rattle.std.proofs.Common.{◌≡◌, ℕ, suc, ◌<◌, ◌≤◌, List, [], ◌∷◌, ◌++◌, Bool, true, false, Option, Some, None, refl, sym, ap, ◌∙◌, cond, map, subst, arith}
use Rattle.std.specs.Prelude.{IsTrue, not, drop, filter, option_map, is_some}
use Rattle.hg_base.specs.declared.image.Image.{Image}
use Rattle.hg_base.specs.declared.writer.Writer.{Writer}
use Rattle.hg_base.specs.declared.value.Value.{Value}
use Rattle.hg_base.specs.Lists.{Each}
use Rattle.hg_core.specs.declared.version.Stamp.{Stamp}
use Rattle.hg_core.specs.declared.version.Stamp.TheVariants.{Written, Numbered, Oldest}
use Rattle.hg_core.specs.declared.version.Version.{Version}
use Rattle.hg_core.specs.Versions.{stamp_number, is_up_to, first_at, installed, undone, stamped, IsFreeFor, IsOpenBy}
use Rattle.hg_core.specs.Counters.{added}
use Rattle.hg_core.specs.Removal.{cut, oldest}
use Rattle.hg_core.specs.Clean.{past, as_oldest}
use Rattle.hg_base.specs.History.{same_writer}
use Rattle.hg_core.specs.Ordered.{Falls, IsOrdered}
use Rattle.hg_core.proofs.Shows.{writer_itself}
use Rattle.hg_core.proofs.Cuts.{cut_exactly}
use Rattle.hg_bucket.specs.BucketModel as bucket
use Rattle.hg_bucket.specs.BucketModel.{is_at_most, begins_open, IsBelow, survivor, cut_at}
use Rattle.hg_store.specs.Kept.{kept_as, kept}
use Rattle.hg_store.proofs.Seeing.{at_most_kept, find_kept}

-- ---- a write

own_open : (w by : Writer) (image : Image) → by ≡ w → IsTrue (begins_open w (kept_as (Written by) image ∷ []))
own_open w by image same = subst (λ x. same_writer x w ≡ true) (sym same) (writer_itself w)

pub installed_kept : (mark : ℕ) (w : Writer) (image : Image) (vs : List Version) → IsFreeFor mark w vs → bucket.installed w image (map kept vs) ≡ map kept (installed w image vs)
installed_kept mark w image [] free = refl
installed_kept mark w image (v ∷ vs) free = go v.stamp free
  where
    go : (x : Stamp) → IsFreeFor mark w (record { stamp = x; image = v.image } ∷ vs) → bucket.installed w image (map kept (record { stamp = x; image = v.image } ∷ vs)) ≡ map kept
        (installed w image (record { stamp = x; image = v.image } ∷ vs))
    go (Written by) free = ap (λ b. bucket.open_write w image ∷ cond b (map kept vs) (kept_as (Written by) v.image ∷ map kept vs)) (own_open w by v.image free)
    go (Numbered n by) free = refl
    go (Oldest n) free = refl

pub added_kept : (mark : ℕ) (w : Writer) (vs : List Version) → IsFreeFor mark w vs → cond (begins_open w (map kept vs)) 0 1 ≡ added vs
added_kept mark w [] free = refl
added_kept mark w (v ∷ vs) free = go v.stamp free
  where
    go : (x : Stamp) → IsFreeFor mark w (record { stamp = x; image = v.image } ∷ vs) → cond (begins_open w (map kept (record { stamp = x; image = v.image } ∷ vs))) 0 1 ≡ added
        (record { stamp = x; image = v.image } ∷ vs)
    go (Written by) free = ap (λ b. cond b 0 1) (own_open w by v.image free)
    go (Numbered n by) free = refl
    go (Oldest n) free = refl

-- ---- an undo, and a stamp

pub open_kept : (w : Writer) (vs : List Version) → IsOpenBy w vs → IsTrue (begins_open w (map kept vs))
open_kept w [] mine = absurd mine
open_kept w (v ∷ vs) mine = go v.stamp mine
  where
    go : (x : Stamp) → x ≡ Written w → IsTrue (begins_open w (kept_as x v.image ∷ map kept vs))
    go (Written by) e = own_open w by v.image cc
    go (Numbered n by) e = absurd cc
    go (Oldest n) e = absurd cc

pub undone_kept : (vs : List Version) → drop 1 (map kept vs) ≡ map kept (undone vs)
undone_kept [] = refl
undone_kept (v ∷ vs) = refl

pub stamped_kept : (n : ℕ) (w : Writer) (vs : List Version) → bucket.stamped w n (map kept vs) ≡ map kept (stamped n w vs)
stamped_kept n w [] = refl
stamped_kept n w (v ∷ vs) = go v.stamp
  where
    go : (x : Stamp) → bucket.stamped w n (kept_as x v.image ∷ map kept vs) ≡ kept_as (Numbered n w) v.image ∷ map kept vs
    go (Written by) = refl
    go (Numbered k by) = refl
    go (Oldest k) = refl

pub falls_below : (n m : ℕ) (vs : List Version) → n ≤ m → Falls n vs → Each (IsBelow m) (map kept vs)
falls_below n m [] le f = tt
falls_below n m (v ∷ vs) le f = (go v.stamp f.1, falls_below f.0 m vs (omega (arith, f.2)) f.3)
  where
    less : f.0 < m
    less = omega (arith, f.2, le)

    go : (x : Stamp) → stamp_number x ≡ Some f.0 → IsBelow m (kept_as x v.image)
    go (Written by) e = absurd cc
    go (Numbered k by) e = let same : k ≡ f.0 = cc in omega (arith, less)
    go (Oldest k) e = let same : k ≡ f.0 = cc in omega (arith, less)

pub all_below : (mark : ℕ) (w : Writer) (vs : List Version) → IsOpenBy w vs → IsOrdered mark vs → Each (IsBelow (suc mark)) (drop 1 (map kept vs))
all_below mark w [] mine o = absurd mine
all_below mark w (v ∷ vs) mine o = go v.stamp mine o
  where
    go : (x : Stamp) → x ≡ Written w → IsOrdered mark (record { stamp = x; image = v.image } ∷ vs) → Each (IsBelow (suc mark)) (map kept vs)
    go (Written by) e f = falls_below (suc mark) (suc mark) vs (omega arith) f
    go (Numbered n by) e f = absurd cc
    go (Oldest n) e f = absurd cc

-- ---- a cut

pub filter_kept : (n : ℕ) (vs : List Version) → filter (λ v. not (is_at_most n v)) (map kept vs) ≡ map kept (past n vs)
filter_kept n [] = refl
filter_kept n (v ∷ vs) = go (is_at_most n (kept v)) (is_up_to n (stamp_number v.stamp)) (at_most_kept n v.stamp v.image) (filter_kept n vs)
  where
    go : (a b : Bool) → a ≡ b → filter (λ v. not (is_at_most n v)) (map kept vs) ≡ map kept (past n vs) →
        cond (not a) (kept v ∷ filter (λ v. not (is_at_most n v)) (map kept vs)) (filter (λ v. not (is_at_most n v)) (map kept vs)) ≡ map kept (cond (not b) (v ∷ past n vs) (past n vs))
    go true true e rest = rest
    go false false e rest = ap (λ ws. kept v ∷ ws) rest
    go true false e rest = absurd cc
    go false true e rest = absurd cc

map_append : (vs ws : List Version) → map kept (vs ++ ws) ≡ map kept vs ++ map kept ws
map_append [] ws = refl
map_append (v ∷ vs) ws = ap (λ us. kept v ∷ us) (map_append vs ws)

row_kept : (n : ℕ) (row : Option (List Value)) → cond (is_some row) (kept_as (Oldest n) (record { row = row }) ∷ []) [] ≡ map kept (oldest (Some n) row)
row_kept n None = refl
row_kept n (Some row) = refl

-- the first at the bound becomes the oldest image alike
survivor_kept : (bound : ℕ) (vs : List Version) → survivor (option_map kept (first_at bound vs)) ≡ map kept (as_oldest (first_at bound vs))
survivor_kept bound [] = refl
survivor_kept bound (v ∷ vs) = go (is_up_to bound (stamp_number v.stamp)) refl (survivor_kept bound vs)
  where
    one : (x : Stamp) → is_up_to bound (stamp_number x) ≡ true → survivor (Some (kept_as x v.image)) ≡ map kept (oldest (stamp_number x) v.image.row)
    one (Written by) e = absurd cc
    one (Numbered n by) e = row_kept n v.image.row
    one (Oldest n) e = row_kept n v.image.row

    go : (b : Bool) → is_up_to bound (stamp_number v.stamp) ≡ b → survivor (option_map kept (first_at bound vs)) ≡ map kept (as_oldest (first_at bound vs)) →
        survivor (option_map kept (cond b (Some v) (first_at bound vs))) ≡ map kept (as_oldest (cond b (Some v) (first_at bound vs)))
    go true e rest = one v.stamp e
    go false e rest = rest

pub cut_kept : (mark bound : ℕ) (vs : List Version) → IsOrdered mark vs → cut_at bound (map kept vs) ≡ map kept (cut bound vs)
cut_kept mark bound vs o =
    (λ i. filter_kept bound vs i ++ survivor (find_kept bound vs i))
    ∙ ap (λ ws. map kept (past bound vs) ++ ws) (survivor_kept bound vs)
    ∙ sym (map_append (past bound vs) (as_oldest (first_at bound vs)))
    ∙ ap (map kept) (sym (cut_exactly mark bound vs o))
