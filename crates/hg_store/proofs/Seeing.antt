-- A read of what a bucket keeps is one of the content.
use Rattle.std.proofs.Common.{◌≡◌, ℕ, suc, List, [], ◌∷◌, Bool, true, false, Option, Some, None, refl, sym, ap, ◌∙◌, cond, map}
use Rattle.std.specs.Prelude.{find, option_map, unwrap_or}
use Rattle.std.specs.Option.{option_or}
use Rattle.hg_base.specs.declared.image.Image.{Image}
use Rattle.hg_base.specs.declared.writer.Writer.{Writer}
use Rattle.hg_base.specs.History.{nothing, same_writer}
use Rattle.hg_core.specs.declared.version.Stamp.{Stamp}
use Rattle.hg_core.specs.declared.version.Stamp.TheVariants.{Written, Numbered, Oldest}
use Rattle.hg_core.specs.declared.version.Version.{Version}
use Rattle.hg_core.specs.Versions.{stamp_number, is_up_to, first_at, paired, pair_of, newest_at}
use Rattle.hg_core.specs.Covered.{image_of}
use Rattle.hg_core.specs.Replies.{read_by}
use Rattle.hg_core.specs.Ordered.{Falls, IsOrdered}
use Rattle.hg_bucket.specs.BucketModel.{Kept, is_at_most, is_open_by, read_at}
use Rattle.hg_store.specs.Kept.{kept_as, kept}

pub at_most_kept : (n : ℕ) (x : Stamp) (image : Image) → is_at_most n (kept_as x image) ≡ is_up_to n (stamp_number x)
at_most_kept n (Written by) image = refl
at_most_kept n (Numbered number by) image = refl
at_most_kept n (Oldest number) image = refl

pub find_kept : (n : ℕ) (vs : List Version) → find (is_at_most n) (map kept vs) ≡ option_map kept (first_at n vs)
find_kept n [] = refl
find_kept n (v ∷ vs) = go (is_at_most n (kept v)) (is_up_to n (stamp_number v.stamp)) (at_most_kept n v.stamp v.image) (find_kept n vs)
  where
    go : (a b : Bool) → a ≡ b → find (is_at_most n) (map kept vs) ≡ option_map kept (first_at n vs) →
        cond a (Some (kept v)) (find (is_at_most n) (map kept vs)) ≡ option_map kept (cond b (Some v) (first_at n vs))
    go true true e rest = refl
    go false false e rest = rest
    go true false e rest = absurd cc
    go false true e rest = absurd cc

-- what has a number is no open write
pub numbered_not_open : (w : Writer) (x : Stamp) (image : Image) (n : ℕ) → stamp_number x ≡ Some n → is_open_by w (kept_as x image) ≡ false
numbered_not_open w (Written by) image n e = absurd cc
numbered_not_open w (Numbered number by) image n e = refl
numbered_not_open w (Oldest number) image n e = refl

pub none_open : (w : Writer) (n : ℕ) (vs : List Version) → Falls n vs → find (is_open_by w) (map kept vs) ≡ None
none_open w n [] f = refl
none_open w n (v ∷ vs) f = ap (λ b. cond b (Some (kept v)) (find (is_open_by w) (map kept vs))) (numbered_not_open w v.stamp v.image f.0 f.1) ∙ none_open w f.0 vs f.3

-- ---- the image at a number

image_paired : (n : ℕ) (x : Option ℕ) (image : Image) → is_up_to n x ≡ true → image_of (paired x image) ≡ image
image_paired n None image e = absurd cc
image_paired n (Some number) image e = refl

pub image_first : (n : ℕ) (vs : List Version) → image_of (newest_at n vs) ≡ unwrap_or (option_map (λ (v : Version). v.image) (first_at n vs)) nothing
image_first n [] = refl
image_first n (v ∷ vs) = go (is_up_to n (stamp_number v.stamp)) refl (image_first n vs)
  where
    go : (b : Bool) → is_up_to n (stamp_number v.stamp) ≡ b → image_of (newest_at n vs) ≡ unwrap_or (option_map (λ (v : Version). v.image) (first_at n vs)) nothing →
        image_of (pair_of (cond b (Some v) (first_at n vs))) ≡ unwrap_or (option_map (λ (v : Version). v.image) (cond b (Some v) (first_at n vs))) nothing
    go true e rest = image_paired n (stamp_number v.stamp) v.image e
    go false e rest = rest

kept_image : (o : Option Version) → option_map (λ (k : Kept). k.image) (option_map kept o) ≡ option_map (λ (v : Version). v.image) o
kept_image None = refl
kept_image (Some v) = go v.stamp
  where
    go : (x : Stamp) → Some (kept_as x v.image).image ≡ Some v.image
    go (Written by) = refl
    go (Numbered number by) = refl
    go (Oldest number) = refl

at_number : (n : ℕ) (vs : List Version) → unwrap_or (option_map (λ (k : Kept). k.image) (find (is_at_most n) (map kept vs))) nothing ≡ image_of (newest_at n vs)
at_number n vs = ap (λ o. unwrap_or (option_map (λ (k : Kept). k.image) o) nothing) (find_kept n vs) ∙ ap (λ o. unwrap_or o nothing) (kept_image (first_at n vs)) ∙ sym (image_first n vs)

-- ---- what a transaction reads

-- where nothing is its own open write
unowned : (w : Writer) (n : ℕ) (vs : List Version) → find (is_open_by w) (map kept vs) ≡ None → unwrap_or (read_at w n (map kept vs)) nothing ≡ image_of (newest_at n vs)
unowned w n vs none = ap (λ o. unwrap_or (option_map (λ (k : Kept). k.image) (option_or o (find (is_at_most n) (map kept vs)))) nothing) none ∙ at_number n vs

pub read_kept : (mark : ℕ) (w : Writer) (n : ℕ) (vs : List Version) → IsOrdered mark vs → unwrap_or (read_at w n (map kept vs)) nothing ≡ read_by w n vs
read_kept mark w n [] o = refl
read_kept mark w n (v ∷ vs) o = go v.stamp o
  where
    open_first : (by : Writer) → find (is_open_by w) (map kept vs) ≡ None → (b : Bool) → same_writer by w ≡ b →
        unwrap_or (option_map (λ (k : Kept). k.image) (option_or (cond b (Some (kept_as (Written by) v.image)) (find (is_open_by w) (map kept vs)))
        (find (is_at_most n) (map kept vs)))) nothing ≡ cond b v.image (image_of (newest_at n vs))
    open_first by none true e = refl
    open_first by none false e = unowned w n vs none

    go : (x : Stamp) → IsOrdered mark (record { stamp = x; image = v.image } ∷ vs) →
        unwrap_or (read_at w n (map kept (record { stamp = x; image = v.image } ∷ vs))) nothing ≡ read_by w n (record { stamp = x; image = v.image } ∷ vs)
    go (Written by) f = open_first by (none_open w (suc mark) vs f) (same_writer by w) refl
    go (Numbered number by) f = unowned w n (record { stamp = Numbered number by; image = v.image } ∷ vs) (none_open w number vs f.1)
    go (Oldest number) f = unowned w n (record { stamp = Oldest number; image = v.image } ∷ vs) (none_open w number vs f.1)
