-- What a pass loaded bounds what the sessions read.
use Rattle.std.specs.Prelude.{◌≡◌, ◌⊎◌, ℕ, ◌≤◌, Option, IfSome, IsTrue, ⊤}
use Rattle.hg_base.specs.declared.rid.TableId.{TableId}
use Rattle.hg_base.specs.declared.scope.Scope.{Scope}
use Rattle.hg_base.specs.declared.scope.Scope.TheVariants as scopes
use Rattle.hg_base.specs.Freshness.{is_declared}
use Rattle.hg_base.specs.Transcript.{has}
use Rattle.hg_core.specs.declared.loaded.Loaded.{Loaded}
use Rattle.hg_core.specs.declared.register.Register.{Register}
use Rattle.hg_core.specs.declared.register.Register.TheVariants as registers
use Rattle.hg_core.specs.declared.phase.Phase.{Phase}
use Rattle.hg_core.specs.declared.phase.Phase.TheVariants.{Idle, Declared, Probed, Entered, Fixed, Live}
use Rattle.hg_core.specs.Passes.{PassRecord, found}

-- an entering register's number is at or below n
abbrev pub EntersUpTo : Register → ℕ → Type 0
EntersUpTo registers.Idle n = ⊥
EntersUpTo (registers.Entering f) n = f ≤ n
EntersUpTo (registers.Live number declared moved) n = ⊥

-- each table of a scope is one of another
abbrev pub IsWithin : Scope → Scope → Type 0
IsWithin scope other = (table : TableId) → IsTrue (has scope table) → IsTrue (has other table)

-- The register is live at n, with declared tables exactly where the scope is declared. And the mask isn't loaded yet, or has
-- each table of the scope.
abbrev pub HoldsBack : Register → Option ℕ → ℕ → Scope → Type 0
HoldsBack registers.Idle mask n scope = ⊥
HoldsBack (registers.Entering f) mask n scope = ⊥
HoldsBack (registers.Live number declared moved) mask n scope = (number ≡ n) × (declared ≡ is_declared scope) × IfSome mask (λ tables. IsWithin scope (scopes.Declared tables))

-- What was loaded of a session after the mark says of its phase. That a live register was loaded says nothing of a fixed
-- session: its transaction is a later one.
abbrev pub Bounds : ℕ → Loaded → Phase → Type 0
Bounds mark loaded Idle = ⊤
Bounds mark loaded (Declared scope) = ⊤
Bounds mark loaded (Probed scope f) = ⊤
Bounds mark loaded (Entered scope f) = ⊤
Bounds mark loaded (Fixed scope f m) = (mark ≤ m) ⊎ EntersUpTo loaded.register m
Bounds mark loaded (Live at scope) = (mark ≤ at) ⊎ (EntersUpTo loaded.register at ⊎ HoldsBack loaded.register loaded.mask at scope)

-- each record bounds each session of which it loaded the register
abbrev pub RecordsBoundSessions : (ℕ → Phase) → (ℕ → PassRecord) → Type 0
RecordsBoundSessions phase pass = (p j : ℕ) → IfSome (found j (pass p).loaded) (λ loaded. Bounds (pass p).mark loaded (phase j))
