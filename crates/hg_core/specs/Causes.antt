-- What a run had when something came about.
use Rattle.std.specs.Prelude.{◌≡◌, ◌⊎◌, ℕ, List, [], ◌∷◌, ◌++◌, true, false, Some}
use Rattle.hg_base.specs.declared.rid.Rid.{Rid}
use Rattle.hg_base.specs.declared.line.Answer.{Answer}
use Rattle.hg_core.specs.declared.log.LogEntry.{LogEntry}
use Rattle.hg_core.specs.declared.log.LogEntry.TheVariants.{Began, Refused}
use Rattle.hg_core.specs.declared.journal.PassEntry.{PassEntry}
use Rattle.hg_core.specs.declared.journal.PassEntry.TheVariants.{Tried}
use Rattle.hg_core.specs.declared.register.Register.TheVariants as registers
use Rattle.hg_core.specs.Logs.{begun_in, current, snapshot_number}
use Rattle.hg_core.specs.Contents.{versions}
use Rattle.hg_core.specs.OpenWrites.{writer_of}
use Rattle.hg_core.specs.Replies.{refusal}
use Rattle.hg_core.specs.State.{CoreState, opened}
use Rattle.hg_core.specs.Steps.{Step, Run, run}

-- P holds of every list of steps from the state in which a board of any numbers opens
abbrev pub Runs : (CoreState → List Step → Type 0) → Type 0
Runs P = (sessions tables buckets passes quota : ℕ) (steps : List Step) → Run (opened sessions tables buckets passes quota) steps → P (opened sessions tables buckets passes quota) steps

-- a list of steps leads, after its first ones, to a state of which P holds
pub record AtSome (start : CoreState) (steps : List Step) (P : CoreState → Type 0) : Type 0 where
  pub before : List Step
  pub after : List Step
  pub parts : steps ≡ before ++ after
  pub there : P (run start before)

-- a log has a begin at n
abbrev pub BeganAt : ℕ → List LogEntry → Type 0
BeganAt n [] = ⊥
BeganAt n (Began at scope ∷ log) = (at ≡ n) ⊎ BeganAt n log
BeganAt n (_ ∷ log) = BeganAt n log

-- a log has a write of r that was refused so
abbrev pub WasRefused : Rid → Answer → List LogEntry → Type 0
WasRefused r answer [] = ⊥
WasRefused r answer (Refused rid why ∷ log) = ((rid ≡ r) × (why ≡ answer)) ⊎ WasRefused r answer log
WasRefused r answer (_ ∷ log) = WasRefused r answer log

-- session j's write of r is refused so, by the versions that are there
abbrev pub IsRefused : ℕ → Rid → Answer → CoreState → Type 0
IsRefused j r answer s = refusal s.mark (writer_of (begun_in s.log) j) (snapshot_number (current (s.log j))) (versions s.buckets s.bucket r) ≡ Some answer

-- a journal has a try that moved session j's snapshot n
abbrev pub WasMoved : ℕ → ℕ → List PassEntry → Type 0
WasMoved j n [] = ⊥
WasMoved j n (Tried i number true ∷ journal) = ((i ≡ j) × (number ≡ n)) ⊎ WasMoved j n journal
WasMoved j n (_ ∷ journal) = WasMoved j n journal

-- session j's register is live at n, with declared tables, and isn't moved
abbrev pub IsMovable : ℕ → ℕ → CoreState → Type 0
IsMovable j n s = s.register j ≡ registers.Live n true false
