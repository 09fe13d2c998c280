-- What a pass loaded is in the logs.
use Rattle.std.specs.Prelude.{◌≡◌, ◌⊎◌, ℕ, ◌≤◌, List, ◌++◌, length, Bool, Some, None, IfSome, IsTrue}
use Rattle.hg_base.specs.declared.scope.Scope.{Scope}
use Rattle.hg_base.specs.Freshness.{is_declared}
use Rattle.hg_core.specs.declared.register.Register.{Register}
use Rattle.hg_core.specs.declared.register.Register.TheVariants as registers
use Rattle.hg_core.specs.declared.phase.Phase.{Phase}
use Rattle.hg_core.specs.declared.log.LogEntry.{LogEntry}
use Rattle.hg_core.specs.Logs.{current, has_begun}
use Rattle.hg_core.specs.Phases.{IsEntering}
use Rattle.hg_core.specs.Passes.{PassRecord, found}

-- A transaction was open that began with the number of a live register, with declared tables exactly where the register has
-- the bit; and the register is moved only there.
pub record SaysLive (number : ℕ) (declared moved : Bool) (then : List LogEntry) (scope : Scope) : Type 0 where
  pub snapshot : current then ≡ Some (record { at = number; scope = scope })
  pub tables : declared ≡ is_declared scope
  pub moves : IsTrue moved → IsTrue declared

-- What a register says of the log as it was when the register was loaded, of what came later, and of the phase now: a live
-- one shows the transaction that was open then; else none was; and one that entered then has begun since, or still enters.
abbrev pub Says : Register → List LogEntry → List LogEntry → Phase → Type 0
Says registers.Idle later then phase = current then ≡ None
Says (registers.Entering f) later then phase = (current then ≡ None) × (IsTrue (has_begun later) ⊎ IsEntering phase)
Says (registers.Live number declared moved) later then phase = (scope : Scope) × SaysLive number declared moved then scope

-- the log as it was when the register was loaded, and what came later
pub record Reaches (known : ℕ) (register : Register) (log : List LogEntry) (phase : Phase) (later then : List LogEntry) : Type 0 where
  pub log_is : log ≡ later ++ then
  pub longer : known ≤ length then
  pub says : Says register later then phase

-- a register was loaded when the log was at least as long as the pass knew
abbrev pub StandsIn : ℕ → Register → List LogEntry → Phase → Type 0
StandsIn known register log phase = (later : List LogEntry) × (then : List LogEntry) × Reaches known register log phase later then

-- what each pass loaded of a session is what the session's log said when the pass loaded it
pub record RecordsReachLogs (phase : ℕ → Phase) (log : ℕ → List LogEntry) (pass : ℕ → PassRecord) : Type 0 where
  pub known : (p j : ℕ) → (pass p).known j ≤ length (log j)
  pub stands : (p j : ℕ) → IfSome (found j (pass p).loaded) (λ loaded. StandsIn ((pass p).known j) loaded.register (log j) (phase j))
