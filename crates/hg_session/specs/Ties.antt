-- What a session keeps of its part of the state.
use Rattle.std.specs.Prelude.{◌≡◌, ℕ, ◌+◌, ◌≤◌, List, [], false, Option, Some, None, is_some, IsTrue, ⊤}
use Rattle.hg_base.specs.declared.rid.Rid.{Rid}
use Rattle.hg_base.specs.declared.scope.Snapshot.{Snapshot}
use Rattle.hg_base.specs.History.{is_among, NoneTwice}
use Rattle.hg_base.specs.Transcript.{only}
use Rattle.hg_core.specs.declared.phase.Phase.{Phase}
use Rattle.hg_core.specs.declared.phase.Phase.TheVariants.{Idle, Live}
use Rattle.hg_core.specs.declared.log.LogEntry.{LogEntry}
use Rattle.hg_core.specs.Logs.{current, begans, wrotes, is_plain, open_in}
use Rattle.hg_cursor.specs.declared.cursor.Cursor.{Cursor}
use Rattle.hg_cursor.specs.Cursors.{at_of, table_of}
use Rattle.hg_rule.specs.declared.view.SessionPart.{SessionPart}

-- the phase of a session whose open transaction reads at a snapshot
abbrev pub phase_at : Option Snapshot → Phase
phase_at None = Idle
phase_at (Some snapshot) = Live snapshot.at snapshot.scope

-- each record that the open transaction wrote, once
pub record AreWritten (rids : List Rid) (log : List LogEntry) : Type 0 where
  pub once : NoneTwice rids
  pub each : (r : Rid) → is_among r rids ≡ is_some (open_in r log)

-- The session shows the snapshot of its open transaction, of which nothing was undone or published, and lists what it wrote.
-- It may begin `begins` transactions, and write `writes` records, beyond those that it counts in `left`.
pub record Ties (quota : ℕ) (opened : Option Snapshot) (written : List Rid) (left : ℕ) (begins writes : ℕ) (part : SessionPart) : Type 0 where
  pub phase : part.phase ≡ phase_at opened
  pub unstamped : part.stamped ≡ false
  pub opens : current part.log ≡ opened
  pub plain : IsTrue (is_plain part.log)
  pub written_is : AreWritten written part.log
  pub rests : opened ≡ None → written ≡ []
  pub begun : begans part.log + left + begins ≤ quota
  pub wrote : wrotes part.log + left + writes ≤ quota

-- the snapshot of a cursor, whose transaction declares its one table
abbrev pub snapshot_of : Cursor → Snapshot
snapshot_of c = record { at = at_of c; scope = only (Some (table_of c)) }

-- a cursor that is open reads in the open transaction, which has written nothing
abbrev pub FitsCursor : Option Cursor → Option Snapshot → List Rid → Type 0
FitsCursor None opened written = ⊤
FitsCursor (Some c) opened written = (opened ≡ Some (snapshot_of c)) × (written ≡ [])
