-- What a call leaves that was refused for want of memory.
use Rattle.std.specs.Prelude.{◌≡◌, ◌⊎◌, ℕ, List, [], ◌∷◌, ◌++◌, Option, Some, None}
use Rattle.hg_base.specs.declared.rid.Rid.{Rid}
use Rattle.hg_base.specs.declared.rid.TableId.{TableId}
use Rattle.hg_base.specs.declared.image.Image.{Image}
use Rattle.hg_base.specs.declared.scope.Snapshot.{Snapshot}
use Rattle.hg_base.specs.Lists.{Each}
use Rattle.hg_base.specs.Transcript.{only}
use Rattle.hg_core.specs.declared.log.LogEntry.{LogEntry}
use Rattle.hg_core.specs.declared.log.LogEntry.TheVariants.{Began, Saw, Wrote, Undid, Over}
use Rattle.hg_rule.specs.declared.view.View.{View}
use Rattle.hg_session.specs.Gains.{Gains}

-- a look at the keys from low to high of a table
abbrev pub IsLookAt : TableId → ℕ → ℕ → LogEntry → Type 0
IsLookAt table low high (Saw t l h bucket rows) = (t ≡ table) × ((l ≡ low) × (h ≡ high))
IsLookAt table low high _ = ⊥

-- In an open transaction it looked there, and did nothing else.
pub record HasLooked (table : TableId) (low high : ℕ) (old new : View) : Type 0 where
  pub looks : List LogEntry
  pub there : Each (IsLookAt table low high) looks
  pub gains : Gains old looks new

-- A transaction on the one table began, looked there, had these entries besides, and is over.
pub record HasGivenUp (table : TableId) (low high : ℕ) (besides : List LogEntry) (old new : View) : Type 0 where
  pub at : ℕ
  pub looks : List LogEntry
  pub there : Each (IsLookAt table low high) looks
  pub gains : Gains old (Over ∷ (besides ++ (looks ++ Began at (only (Some table)) ∷ []))) new

-- its write was stored and taken back
abbrev pub taken_back : Rid → Image → List LogEntry
taken_back rid image = Undid rid ∷ Wrote rid image ∷ []

-- A read leaves looks alone, in the open transaction or in one of its own.
abbrev pub LeavesLooks : Option Snapshot → TableId → ℕ → ℕ → View → View → Type 0
LeavesLooks (Some snapshot) table low high old new = HasLooked table low high old new
LeavesLooks None table low high old new = HasGivenUp table low high [] old new

-- A write leaves no version. In the open transaction it left looks alone. As one of its own it was not stored, or was taken back.
abbrev pub LeavesNoWrite : Option Snapshot → Rid → Image → View → View → Type 0
LeavesNoWrite (Some snapshot) rid image old new = HasLooked rid.table rid.key rid.key old new
LeavesNoWrite None rid image old new = HasGivenUp rid.table rid.key rid.key [] old new ⊎ HasGivenUp rid.table rid.key rid.key (taken_back rid image) old new
