-- Which snapshots a round tried to move.
use Rattle.std.specs.Prelude.{◌≡◌, ℕ, Bool, None, List, [], ◌∷◌, length, filter}
use Rattle.hg_base.specs.declared.report.Entry.{Entry}
use Rattle.hg_core.specs.declared.loaded.Loaded.{Loaded}
use Rattle.hg_core.specs.Events.{masked_in}
use Rattle.hg_rule.specs.declared.view.Event.{Event}
use Rattle.hg_rule.specs.declared.view.Event.TheVariants.{Sample, SampleMask}
use Rattle.hg_rule.specs.Rounds.{mark_in, moves_in, entries_of}
use Rattle.hg_tracker.specs.Tries.{is_long}

-- what the round sampled, before any move
abbrev pub sampled : List (ℕ × Loaded) → List Event → List (ℕ × Loaded)
sampled loaded [] = loaded
sampled loaded (Sample p j register ∷ events) = sampled ((j, record { register = register; mask = None }) ∷ loaded) events
sampled loaded (SampleMask p j mask ∷ events) = sampled (masked_in j mask loaded) events
sampled loaded (_ ∷ events) = sampled loaded events

-- the entries that are long in use at the round's mark
abbrev pub long_in : ℕ → List Event → List Entry
long_in long events = filter (is_long (mark_in events) long) (entries_of (sampled [] events))

-- a try for each entry, and whether it was moved
abbrev pub tried : List Entry → List Bool → List (ℕ × (ℕ × Bool))
tried [] outcomes = []
tried (e ∷ entries) [] = []
tried (e ∷ entries) (moved ∷ outcomes) = (e.session, (e.number, moved)) ∷ tried entries outcomes

-- Each snapshot that the round sampled and that is long in use was tried once, in the order of sessions, and no other was.
pub record TriesLong (long : ℕ) (events : List Event) : Type 0 where
  pub outcomes : List Bool
  pub each : length outcomes ≡ length (long_in long events)
  pub tries : moves_in events ≡ tried (long_in long events) outcomes
