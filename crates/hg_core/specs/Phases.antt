-- The phases of a session.
use Rattle.std.specs.Prelude.{ℕ, ◌<◌, ◌≤◌, Option, Some, None, unwrap_or, ⊤}
use Rattle.hg_base.specs.declared.scope.Scope.{Scope}
use Rattle.hg_base.specs.declared.scope.Scope.TheVariants.{All}
use Rattle.hg_base.specs.declared.scope.Snapshot.{Snapshot}
use Rattle.hg_core.specs.declared.phase.Phase.{Phase}
use Rattle.hg_core.specs.declared.phase.Phase.TheVariants.{Idle, Declared, Probed, Entered, Fixed, Live}

-- sessions are numbered from 1
pub record IsSession (sessions : ℕ) (j : ℕ) : Type 0 where
  pub first : 0 < j
  pub last : j ≤ sessions

-- the scope that a session in this phase has declared
abbrev pub scope_in : Phase → Option Scope
scope_in Idle = None
scope_in (Declared scope) = Some scope
scope_in (Probed scope f) = Some scope
scope_in (Entered scope f) = Some scope
scope_in (Fixed scope f m) = Some scope
scope_in (Live at scope) = Some scope

-- and all tables, while it has none
abbrev pub declared_in : Phase → Scope
declared_in phase = unwrap_or (scope_in phase) All

-- the snapshot at which a session in this phase reads
abbrev pub snapshot_in : Phase → Option Snapshot
snapshot_in Idle = None
snapshot_in (Declared scope) = None
snapshot_in (Probed scope f) = None
snapshot_in (Entered scope f) = None
snapshot_in (Fixed scope f m) = None
snapshot_in (Live at scope) = Some (record { at = at; scope = scope })

-- a session that shows that it enters
abbrev pub IsEntering : Phase → Type 0
IsEntering Idle = ⊥
IsEntering (Declared scope) = ⊥
IsEntering (Probed scope f) = ⊥
IsEntering (Entered scope f) = ⊤
IsEntering (Fixed scope f m) = ⊤
IsEntering (Live at scope) = ⊥

-- how many transactions a session in this phase may have begun: fewer than all that it may, while it takes a snapshot
abbrev pub MayHaveBegun : ℕ → Phase → ℕ → Type 0
MayHaveBegun quota Idle n = n ≤ quota
MayHaveBegun quota (Declared scope) n = n < quota
MayHaveBegun quota (Probed scope f) n = n < quota
MayHaveBegun quota (Entered scope f) n = n < quota
MayHaveBegun quota (Fixed scope f m) n = n < quota
MayHaveBegun quota (Live at scope) n = n ≤ quota
