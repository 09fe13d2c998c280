-- Each session's words show its phase.
use Rattle.std.specs.Prelude.{◌≡◌, ◌⊎◌, ℕ, ◌≤◌, Bool, IfSome, IsTrue}
use Rattle.hg_base.specs.declared.scope.Scope.{Scope}
use Rattle.hg_base.specs.Freshness.{is_declared}
use Rattle.hg_core.specs.declared.register.Register.{Register}
use Rattle.hg_core.specs.declared.register.Register.TheVariants as registers
use Rattle.hg_core.specs.declared.phase.Phase.{Phase}
use Rattle.hg_core.specs.declared.phase.Phase.TheVariants.{Idle, Declared, Probed, Entered, Fixed, Live}
use Rattle.hg_core.specs.Words.{IsBelow, mask_of}
use Rattle.hg_core.specs.Phases.{IsSession, scope_in}

-- a live register shows a snapshot, and whether its tables are declared; it is moved only where they are
pub record ShowsLive (at : ℕ) (scope : Scope) (register : Register) (moved : Bool) : Type 0 where
  pub value : register ≡ registers.Live at (is_declared scope) moved
  pub declared : IsTrue moved → IsTrue (is_declared scope)

-- what the register shows in a phase
abbrev pub Shows : Phase → Register → Type 0
Shows Idle register = register ≡ registers.Idle
Shows (Declared scope) register = register ≡ registers.Idle
Shows (Probed scope f) register = register ≡ registers.Idle
Shows (Entered scope f) register = register ≡ registers.Entering f
Shows (Fixed scope f m) register = (register ≡ registers.Entering f) × (f ≤ m)
Shows (Live at scope) register = (moved : Bool) × ShowsLive at scope register moved

-- a mask word is a scope's, and the declared tables are there
pub record IsMaskOf (tables : ℕ) (scope : Scope) (mask : ℕ) : Type 0 where
  pub value : mask ≡ mask_of scope
  pub within : IsBelow tables scope

-- each session's register and mask word show its phase
pub record RegistersAgree (sessions tables : ℕ) (phase : ℕ → Phase) (register : ℕ → Register) (mask : ℕ → ℕ) : Type 0 where
  pub shows : (j : ℕ) → Shows (phase j) (register j)
  -- from the time when a session has declared its scope until it rests, its mask word is that of the scope
  pub masks : (j : ℕ) → IfSome (scope_in (phase j)) (λ scope. IsMaskOf tables scope (mask j))
  -- no other than the board's sessions begins
  pub others : (j : ℕ) → IsSession sessions j ⊎ (phase j ≡ Idle)
