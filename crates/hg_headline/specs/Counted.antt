-- What a replay counts.
use Rattle.std.specs.Prelude.{◌≡◌, ◌⊎◌, ℕ, ◌+◌, ◌≤◌, List, ◌∷◌, ◌++◌, length, map, sum_by, Bool, true, if◌then◌else◌, Option, Some, None, is_some, IsSome}
use Rattle.hg_base.specs.declared.rid.Rid.{Rid}
use Rattle.hg_base.specs.declared.report.Kind.TheVariants as kinds
use Rattle.hg_base.specs.declared.line.Totals.{Totals}
use Rattle.hg_base.specs.History.{Write, History, image_in}
use Rattle.hg_base.specs.Transcript.{Said}
use Rattle.hg_base.specs.Counts.{live, removed_by}
use Rattle.hg_core.specs.declared.log.LogEntry.{LogEntry}
use Rattle.hg_core.specs.declared.log.LogEntry.TheVariants.{Undid, Over}
use Rattle.hg_core.specs.Logs.{current, own_writes}
use Rattle.hg_core.specs.Sums.{sum_to}
use Rattle.hg_core.specs.Counters.{first_writes, undos}
use Rattle.hg_core.specs.Reading.{UndoesAll}

-- every record
abbrev pub every : Rid → Bool
every r = true

-- how many versions the logs of the sessions made: one for each record that a transaction wrote
abbrev pub made_in : ℕ → (ℕ → List LogEntry) → ℕ
made_in sessions logs = sum_to sessions (λ j. first_writes every (logs j))

-- how many writes the logs of the sessions took back
abbrev pub undone_in : ℕ → (ℕ → List LogEntry) → ℕ
undone_in sessions logs = sum_to sessions (λ j. undos every (logs j))

-- how many a stored write adds: none where the transaction wrote its record before
abbrev pub adding : List Write → Option Write → ℕ
adding own None = 0
adding own (Some w) = if is_some (image_in w.rid own) then 0 else 1

-- a transaction that is open is rolled back, without a line
abbrev pub Closes : List LogEntry → List LogEntry → Type 0
Closes log closed = ((current log ≡ None) × (closed ≡ log)) ⊎ (IsSome (current log) × ((undone : List Rid) × UndoesAll (own_writes log) undone × (closed ≡ Over ∷ (map Undid undone ++ log))))

-- The totals over the logs of all sessions as they are closed, what the reports tell of the collectors, and one version left
-- for each live record.
pub record IsCounted (sessions : ℕ) (h : History) (logs : ℕ → List LogEntry) (all : List Said) (totals : Totals) : Type 0 where
  pub made : totals.made ≡ made_in sessions logs
  pub undone : totals.undone ≡ undone_in sessions logs
  pub group : totals.group ≡ sum_by (removed_by kinds.Group) all
  pub table : sum_by (removed_by kinds.Table) all ≤ totals.table
  pub interval : totals.interval ≡ sum_by (removed_by kinds.Interval) all
  pub left : totals.left ≡ length (live h)
  pub balance : totals.made ≡ totals.undone + totals.group + totals.table + totals.interval + totals.left
