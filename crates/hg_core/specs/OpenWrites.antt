-- What isn't published is an open write, and what has the next number is in the committer's list.
use Rattle.std.specs.Prelude.{◌≡◌, ℕ, List, Option, Some, IsSome, IsTrue}
use Rattle.hg_base.specs.declared.rid.Rid.{Rid}
use Rattle.hg_base.specs.declared.writer.Writer.{Writer}
use Rattle.hg_base.specs.declared.image.Image.{Image}
use Rattle.hg_core.specs.declared.version.Version.{Version}
use Rattle.hg_core.specs.Versions.{unpublished, is_numbered}
use Rattle.hg_core.specs.Contents.{is_stamped}

-- the open transaction of session j, by how many each session has begun
abbrev pub writer_of : (ℕ → ℕ) → ℕ → Writer
writer_of begun j = record { session = j; transaction = begun j }

-- What isn't published of a record is the open write of one session's open transaction, with its image; and each open
-- write is there. So no record has two.
pub record OpenWritesStand (mark : ℕ) (begun : ℕ → ℕ) (opened : ℕ → Rid → Option Image) (versions : Rid → List Version) : Type 0 where
  pub owned : (r : Rid) (w : Writer) (image : Image) → unpublished mark (versions r) ≡ Some (w, image) → (w ≡ writer_of begun w.session) × (opened w.session r ≡ Some image)
  pub owns : (r : Rid) (j : ℕ) (image : Image) → opened j r ≡ Some image → unpublished mark (versions r) ≡ Some (writer_of begun j, image)

-- what isn't published has a number exactly where it is in the list, and each of the list is an open write
pub record StampedIsNext (mark : ℕ) (opened : ℕ → Rid → Option Image) (versions : Rid → List Version) (list : List (ℕ × Rid)) : Type 0 where
  pub exact : (r : Rid) (w : Writer) (image : Image) → unpublished mark (versions r) ≡ Some (w, image) → is_numbered (versions r) ≡ is_stamped w.session r list
  pub standing : (j : ℕ) (r : Rid) → IsTrue (is_stamped j r list) → IsSome (opened j r)
