-- What a gather is for.
use Rattle.std.specs.Prelude.{◌≡◌, ◌⊎◌, ℕ, ◌≤◌, Contains, IsTrue}
use Rattle.hg_base.specs.declared.rid.TableId.{TableId}
use Rattle.hg_base.specs.declared.scope.Scope.{Scope}
use Rattle.hg_base.specs.Transcript.{has}
use Rattle.hg_core.specs.declared.phase.Phase.{Phase}
use Rattle.hg_core.specs.declared.phase.Phase.TheVariants.{Live}
use Rattle.hg_core.specs.Passes.{PassRecord, recorded}

-- No snapshot is missed: whatever number a session is live at, it is at or over the horizon, or it is recorded for each
-- table of the session's scope.
abbrev pub MissesNone : ℕ → PassRecord → (ℕ → Phase) → Type 0
MissesNone horizon pass phase = (j at : ℕ) (scope : Scope) (table : TableId) → phase j ≡ Live at scope → IsTrue (has scope table) → (horizon ≤ at) ⊎ Contains (recorded table pass) at
