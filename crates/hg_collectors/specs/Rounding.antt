-- Rounds of a collector, one after the other.
use Rattle.std.specs.Prelude.{◌≡◌, ◌⊎◌, ℕ, ◌≤◌, List, [], ◌∷◌, length, false, vec_capacity, ⊤}
use Rattle.hg_base.specs.declared.report.Kind.{Kind}
use Rattle.hg_base.specs.declared.report.Kind.TheVariants.{Group, Table, Interval}
use Rattle.hg_base.specs.declared.report.Report.{Report}
use Rattle.hg_base.specs.declared.report.Sweep.{Sweep}
use Rattle.hg_base.specs.Reports.{sweep_of}
use Rattle.hg_core.specs.declared.log.LogEntry.{LogEntry}
use Rattle.hg_rule.specs.declared.view.Event.{Event}
use Rattle.hg_rule.specs.declared.view.Event.TheVariants.{Sample}
use Rattle.hg_rule.specs.declared.view.View.{View}
use Rattle.hg_rule.specs.declared.view.Sizes.{Sizes}
use Rattle.hg_rule.specs.Facts.{HasBegun}
use Rattle.hg_collectors.specs.GroupCollectors.{Collects}
use Rattle.hg_rounds.specs.TableCollectors.{Cuts}
use Rattle.hg_rounds.specs.IntervalCollectors.{Sweeps}
use Rattle.hg_rounds.specs.Teams.{SweepsBeside}
use Rattle.hg_collectors.specs.declared.round_lists.RoundLists.{RoundLists}
use Rattle.hg_collectors.specs.declared.round_list.RoundList.{RoundList}
use Rattle.hg_collectors.specs.Swept.{HasMetSessions}

-- One round of the collector of that kind, as its own contract has it, and what is printed of its report. An interval round is made by
-- one collector or by a team. A snapshot that is so many commit numbers behind the mark is long in use.
abbrev pub IsRoundBy : Kind → Sizes → ℕ → View → Sweep → View → Type 0
IsRoundBy Group z long v sweep w = (report : Report) × (Collects z v report w × (sweep ≡ sweep_of report))
IsRoundBy Table z long v sweep w = (report : Report) × (Cuts z long v report w × (sweep ≡ sweep_of report))
IsRoundBy Interval z long v sweep w = (report : Report) × ((Sweeps z v report w ⊎ SweepsBeside z v report w) × (sweep ≡ sweep_of report))

-- Rounds in their order, each as P has it with what is printed of it. Between two of them the pass may have met sessions.
abbrev pub AreRounds : (View → Sweep → View → Type 0) → View → List Sweep → View → Type 0
AreRounds P v [] w = HasMetSessions v w
AreRounds P v (sweep ∷ sweeps) w = (a : View) × (HasMetSessions v a × ((b : View) × (P a sweep b × AreRounds P b sweeps w)))

-- no round was told yet, and there are places for so many
pub record HasPlaces (rounds : ℕ) (told : RoundList) : Type 0 where
  pub none : told.sweeps.items ≡ []
  pub room : rounds ≤ vec_capacity told.sweeps
  pub willing : told.refused ≡ false

-- each collector's list has no round yet, and places for so many
pub record HavePlaces (rounds : ℕ) (told : RoundLists) : Type 0 where
  pub group : HasPlaces rounds told.group
  pub table : HasPlaces rounds told.table
  pub interval : HasPlaces rounds told.interval

-- Rounds were made. Unless memory for what a report says was refused there were so many, and these are kept.
pub record HasMadeAll (kind : Kind) (z : Sizes) (long rounds : ℕ) (v : View) (told : RoundList) (w : View) : Type 0 where
  pub sweeps : List Sweep
  pub made : AreRounds (IsRoundBy kind z long) v sweeps w
  pub told_is : told.refused ≡ false → (told.sweeps.items ≡ sweeps) × (length sweeps ≡ rounds)

-- a live register that a step loaded has its begin in its session's log
abbrev pub BeganIn : (ℕ → List LogEntry) → Event → Type 0
BeganIn logs (Sample p j register) = HasBegun register (logs j)
BeganIn logs _ = ⊤
