-- Contents are in order, and true to the history.
use Rattle.std.specs.Prelude.{◌≡◌, ℕ, suc, ◌<◌, ◌≤◌, List, [], ◌∷◌, Option, Some, None, option_map, ⊤}
use Rattle.std.specs.Option.{option_or}
use Rattle.hg_base.specs.declared.rid.Rid.{Rid}
use Rattle.hg_base.specs.declared.writer.Writer.{Writer}
use Rattle.hg_base.specs.declared.image.Image.{Image}
use Rattle.hg_base.specs.Lists.{Each}
use Rattle.hg_base.specs.History.{Group, History, image_in, group_at, group_image}
use Rattle.hg_core.specs.declared.version.Stamp.{Stamp}
use Rattle.hg_core.specs.declared.version.Stamp.TheVariants.{Written, Numbered, Oldest}
use Rattle.hg_core.specs.declared.version.Version.{Version}
use Rattle.hg_core.specs.Versions.{stamp_number}

-- each version has a number, which is below n and below those before it
abbrev pub Falls : ℕ → List Version → Type 0
Falls n [] = ⊤
Falls n (v ∷ vs) = (number : ℕ) × (stamp_number v.stamp ≡ Some number) × (number < n) × Falls number vs

-- at most the first version is an open write or has a number over the mark, which is then the next; and numbers fall
abbrev pub IsOrdered : ℕ → List Version → Type 0
IsOrdered mark [] = ⊤
IsOrdered mark (v ∷ vs) = elim v.stamp [
  | Written by ↦ Falls (suc mark) vs
  | Numbered number by ↦ (number ≤ suc mark) × Falls number vs
  | Oldest number ↦ (number ≤ mark) × Falls number vs
]

-- the writer of r in a group, with the image
abbrev pub group_write : Rid → Group → Option (Writer × Image)
group_write r [] = None
group_write r (c ∷ cs) = option_or (option_map (λ image. (record { session = c.session; transaction = c.transaction }, image)) (image_in r c.images)) (group_write r cs)

-- a version numbered at or below the mark is what the group of that number writes to r, and by whom where it says so
abbrev pub IsWriteOf : ℕ → History → Rid → Stamp → Image → Type 0
IsWriteOf mark h r (Written by) image = ⊤
IsWriteOf mark h r (Numbered number by) image = number ≤ mark → group_write r (group_at h number) ≡ Some (by, image)
IsWriteOf mark h r (Oldest number) image = number ≤ mark → group_image r (group_at h number) ≡ Some image

-- each published version of a record is what its group wrote
abbrev pub IsBacked : ℕ → History → Rid → List Version → Type 0
IsBacked mark h r vs = Each (λ v. IsWriteOf mark h r v.stamp v.image) vs

-- the versions of each record are in order, and are true to the history
pub record ContentsAreOrdered (mark : ℕ) (history : History) (versions : Rid → List Version) : Type 0 where
  pub ordered : (r : Rid) → IsOrdered mark (versions r)
  pub backed : (r : Rid) → IsBacked mark history r (versions r)
