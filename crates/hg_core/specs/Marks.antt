-- The mark is the length of the history, and nothing that was loaded of it is above it.
use Rattle.std.specs.Prelude.{◌≡◌, ℕ, ◌≤◌, length, ⊤}
use Rattle.hg_base.specs.History.{History}
use Rattle.hg_core.specs.declared.phase.Phase.{Phase}
use Rattle.hg_core.specs.declared.phase.Phase.TheVariants.{Idle, Declared, Probed, Entered, Fixed, Live}
use Rattle.hg_core.specs.Passes.{PassRecord}

-- each number of a phase is at or below the mark
abbrev pub PhaseUpTo : ℕ → Phase → Type 0
PhaseUpTo mark Idle = ⊤
PhaseUpTo mark (Declared scope) = ⊤
PhaseUpTo mark (Probed scope f) = f ≤ mark
PhaseUpTo mark (Entered scope f) = f ≤ mark
PhaseUpTo mark (Fixed scope f m) = (f ≤ mark) × (m ≤ mark)
PhaseUpTo mark (Live at scope) = at ≤ mark

-- the mark is the length of the history, and no session or pass has loaded a greater number
pub record MarkIsLength (mark : ℕ) (history : History) (phase : ℕ → Phase) (pass : ℕ → PassRecord) : Type 0 where
  pub is_length : mark ≡ length history
  pub sessions : (j : ℕ) → PhaseUpTo mark (phase j)
  pub passes : (p : ℕ) → (pass p).mark ≤ mark
