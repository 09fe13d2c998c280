-- What is held answers every read that a session makes now, or may come to make.
use Rattle.std.specs.Prelude.{◌≡◌, ◌⊎◌, ℕ, ◌≤◌, List, [], ◌∷◌, Option, Some, None, IsTrue, option_map}
use Rattle.std.specs.Option.{option_or}
use Rattle.hg_base.specs.declared.rid.Rid.{Rid}
use Rattle.hg_base.specs.declared.rid.TableId.{TableId}
use Rattle.hg_base.specs.declared.image.Image.{Image}
use Rattle.hg_base.specs.Lists.{Each}
use Rattle.hg_base.specs.History.{History, nothing, writes, visible}
use Rattle.hg_base.specs.Transcript.{has}
use Rattle.hg_core.specs.declared.phase.Phase.{Phase}
use Rattle.hg_core.specs.declared.phase.Phase.TheVariants.{Idle, Declared, Probed, Entered, Fixed, Live}
use Rattle.hg_core.specs.declared.version.Version.{Version}
use Rattle.hg_core.specs.Versions.{newest_at}

-- the image of a pair, and nothing where there is none
abbrev pub image_of : Option (ℕ × Image) → Image
image_of None = nothing
image_of (Some pair) = pair.1

-- the last pair
abbrev pub last_pair : List (ℕ × Image) → Option (ℕ × Image)
last_pair [] = None
last_pair (w ∷ ws) = option_or (last_pair ws) (Some w)

-- a phase reads the table at n, or will: a session that has fixed a number counts for every table, whatever it declared
abbrev pub Reads : TableId → Phase → ℕ → Type 0
Reads table Idle n = ⊥
Reads table (Declared scope) n = ⊥
Reads table (Probed scope f) n = ⊥
Reads table (Entered scope f) n = ⊥
Reads table (Fixed scope f m) n = n ≡ m
Reads table (Live at scope) n = (n ≡ at) × IsTrue (has scope table)

-- the numbers at which a table is, or may come to be, read: the mark, and those of the sessions
abbrev pub IsProtected : ℕ → (ℕ → Phase) → TableId → ℕ → Type 0
IsProtected mark phase table n = (n ≡ mark) ⊎ ((j : ℕ) × Reads table (phase j) n)

-- The versions of r show at each protected number what a table shows that never reclaims. And the newest published one has
-- the number of the last write; or that was a deletion, at or below all protected numbers, and nothing of r is left.
pub record Covers (mark : ℕ) (phase : ℕ → Phase) (history : History) (r : Rid) (vs : List Version) : Type 0 where
  pub same : (n : ℕ) → IsProtected mark phase r.table n → image_of (newest_at n vs) ≡ visible history r n
  pub newest :
      (option_map (λ pair. pair.0) (newest_at mark vs) ≡ option_map (λ pair. pair.0) (last_pair (writes history r)))
      ⊎ ((newest_at mark vs ≡ None) × ((d : ℕ) × (last_pair (writes history r) ≡ Some (d, nothing)) × ((n : ℕ) → IsProtected mark phase r.table n → d ≤ n)))

-- an open write may commit: its session is live with the table, and each write of the record is at or below its snapshot
abbrev pub MayCommit : History → Rid → Phase → Type 0
MayCommit h r Idle = ⊥
MayCommit h r (Declared scope) = ⊥
MayCommit h r (Probed scope f) = ⊥
MayCommit h r (Entered scope f) = ⊥
MayCommit h r (Fixed scope f m) = ⊥
MayCommit h r (Live at scope) = IsTrue (has scope r.table) × Each (λ w. w.0 ≤ at) (writes h r)

-- each open write may commit
abbrev pub OpenWritesMayCommit : History → (ℕ → Phase) → (ℕ → Rid → Option Image) → Type 0
OpenWritesMayCommit h phase opened = (j : ℕ) (r : Rid) (image : Image) → opened j r ≡ Some image → MayCommit h r (phase j)
