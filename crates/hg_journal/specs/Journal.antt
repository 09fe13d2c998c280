-- An open journal, and what an append may leave.
use Rattle.std.specs.Prelude.{◌≡◌, ◌⊎◌, ℕ, List, ◌++◌, length}
use Rattle.hg_journal.specs.Gate.{at_rest, kept}
use Rattle.hg_journal.specs.Device.{Only}
use Rattle.hg_journal.specs.declared.journal.Journal.{Journal}

-- the file is what it keeps and a closed gate, all of it on the disk
pub record IsOpen {D : Type 0} (seen : D → List ℕ) (may_leave : D → List ℕ → Type 0) (journal : Journal D) : Type 0 where
  pub file : seen journal.device ≡ at_rest (kept (seen journal.device))
  pub end : journal.end ≡ length (kept (seen journal.device))
  pub durable : Only (seen journal.device) (may_leave journal.device)

-- the file keeps the text, with the group or without it
abbrev pub KeepsWithOrWithout : List ℕ → List ℕ → List ℕ → Type 0
KeepsWithOrWithout text group file = (kept file ≡ text) ⊎ (kept file ≡ text ++ group)
