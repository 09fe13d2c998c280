-- An open write at the front of a chain: that it stands there, and gets a number.
use Rattle.std.proofs.Common.{◌≡◌, ℕ, ◌<◌, List, [], ◌∷◌, length, Some, None, refl, ap, drop}
use Rattle.std.specs.Prelude.{IsTrue, ⊤}
use Rattle.hg_base.specs.declared.image.Image.{Image}
use Rattle.hg_base.specs.declared.writer.Writer.{Writer}
use Rattle.hg_base.specs.Lists.{Each}
use Rattle.hg_chains.specs.declared.version.Stamp.{Stamp}
use Rattle.hg_chains.specs.declared.version.Stamp.TheVariants.{Written, Numbered}
use Rattle.hg_chains.specs.declared.version.Version.{Version}
use Rattle.hg_chains.specs.Versions as chain
use Rattle.hg_space.specs.Places.{Oldest}
use Rattle.hg_bucket.specs.BucketModel.{begins_open, stamped, IsBelow}
use Rattle.hg_bucket.specs.Parts.{kept_as, whole, IsOver}
use Rattle.hg_bucket.proofs.Reading.{open_kept}

-- ---- an open write

pub open_chain : (by : Writer) (vs : List Version) (im : Oldest) → begins_open by (whole vs im) ≡ chain.is_open_by by vs
open_chain by [] None = refl
open_chain by [] (Some p) = refl
open_chain by (v ∷ vs) im = open_kept by v.stamp v.image

pub image_kept : (s : Stamp) (image : Image) → (kept_as s image).image ≡ image
image_kept (Written w) image = refl
image_kept (Numbered n w) image = refl

pub whole_stamped : (by : Writer) (n : ℕ) (vs : List Version) (im : Oldest) → IsTrue (chain.is_open_by by vs) → stamped by n (whole vs im) ≡ whole (chain.stamped by n vs) im
whole_stamped by n [] im h = absurd (let j = h in cc)
whole_stamped by n (v ∷ vs) im h = ap (λ image. record { number = Some n; by = Some by; image = image } ∷ whole vs im) (image_kept v.stamp v.image)

-- numbers below one, of a chain and of the oldest image behind it
abbrev pub OldestBelow : ℕ → Oldest → Type 0
OldestBelow n None = ⊤
OldestBelow n (Some p) = p.0 < n

pub below_all : (n : ℕ) (vs : List Version) (im : Oldest) → Each (IsBelow n) (whole vs im) → Each (chain.IsBelow n) vs × OldestBelow n im
below_all n [] None h = (tt, tt)
below_all n [] (Some p) h = (tt, h.0)
below_all n (v ∷ vs) im h = let rest = below_all n vs im h.1 in ((one v.stamp v.image h.0, rest.0), rest.1)
  where
    one : (s : Stamp) (image : Image) → IsBelow n (kept_as s image) → chain.HasBelow n s
    one (Written w) image k = k
    one (Numbered m w) image k = k

pub below_behind : (by : Writer) (n : ℕ) (vs : List Version) (im : Oldest) → IsTrue (chain.is_open_by by vs) → Each (IsBelow n) (drop 1 (whole vs im)) →
    Each (chain.IsBelow n) (drop 1 vs) × OldestBelow n im
below_behind by n [] im o h = absurd (let j = o in cc)
below_behind by n (v ∷ vs) im o h = below_all n vs im h

-- ---- a commit

pub stamped_length : (by : Writer) (n : ℕ) (vs : List Version) → length (chain.stamped by n vs) ≡ length vs
stamped_length by n [] = refl
stamped_length by n (v ∷ vs) = refl

pub stamped_over : (by : Writer) (n : ℕ) (vs : List Version) (im : Oldest) → OldestBelow n im → Each (λ v. IsOver v.stamp im) vs → Each (λ v. IsOver v.stamp im) (chain.stamped by n vs)
stamped_over by n [] im o h = tt
stamped_over by n (v ∷ vs) im o h = (one im o, h.1)
  where
    one : (im : Oldest) → OldestBelow n im → IsOver (Numbered n by) im
    one None o = tt
    one (Some p) o = o
