-- A round of a collector's pass: the steps that it made from one load of the mark up to the next, or to the end. What it
-- loaded, moved, took and removed is read from these steps alone, and so is what it reports.
use Rattle.std.specs.Prelude.{◌≡◌, ℕ, suc, ◌+◌, max, true, Bool, Option, Some, None, List, [], ◌∷◌, ◌++◌, map, ⊤}
use Rattle.hg_base.specs.declared.report.Kind.{Kind}
use Rattle.hg_base.specs.declared.report.Entry.{Entry}
use Rattle.hg_base.specs.declared.report.Report.{Report}
use Rattle.hg_base.specs.declared.report.Sweep.{Sweep}
use Rattle.hg_base.specs.Lists.{Each}
use Rattle.hg_base.specs.Reports.{told_of}
use Rattle.hg_base.specs.declared.scope.Scope.{Scope}
use Rattle.hg_base.specs.declared.scope.Scope.TheVariants.{All, Declared}
use Rattle.hg_core.specs.declared.loaded.Loaded.{Loaded}
use Rattle.hg_core.specs.declared.register.Register.{Register}
use Rattle.hg_core.specs.declared.register.Register.TheVariants.{Idle, Entering, Live}
use Rattle.hg_core.specs.Passes.{PassRecord, horizon}
use Rattle.hg_core.specs.Events.{moved_in, masked_in}
use Rattle.hg_rule.specs.declared.view.PassPart.{PassPart}
use Rattle.hg_rule.specs.declared.view.Event.{Event}
use Rattle.hg_rule.specs.declared.view.Event.TheVariants.{Mark, Sample, SampleMask, Move, Reclaim, Take}
use Rattle.hg_rule.specs.declared.view.Sight.{Sight}
use Rattle.hg_rule.specs.declared.view.Sight.TheVariants.{Saw, Heard, Took, Did}

-- ---- which steps are one

-- a step that is not a load of the mark by a collector's pass
abbrev pub IsNoMark : Event → Type 0
IsNoMark (Mark p mark) = ⊥
IsNoMark _ = ⊤

-- a step that removes versions, or takes a group
abbrev pub IsWork : Event → Type 0
IsWork (Reclaim p kind rid n) = ⊤
IsWork (Take p mark) = ⊤
IsWork _ = ⊥

-- these steps begin with a load of the mark by pass p, and no other load of the mark follows
abbrev pub IsRound : ℕ → List Event → Type 0
IsRound p [] = ⊥
IsRound p (Mark q mark ∷ events) = (q ≡ p) × Each IsNoMark events
IsRound p (_ ∷ events) = ⊥

-- ---- its record

-- the mark that the round loaded
abbrev pub mark_in : List Event → ℕ
mark_in [] = 0
mark_in (Mark p mark ∷ events) = mark
mark_in (_ ∷ events) = mark_in events

-- what is loaded, once a step was made: a sample comes first, a mask joins its register, and a move that succeeded shows
abbrev pub then_loaded : Event → List (ℕ × Loaded) → List (ℕ × Loaded)
then_loaded (Sample p j register) loaded = (j, record { register = register; mask = None }) ∷ loaded
then_loaded (SampleMask p j mask) loaded = masked_in j mask loaded
then_loaded (Move p j number true) loaded = moved_in j loaded
then_loaded _ loaded = loaded

-- what is loaded once all of these steps were made
abbrev pub loaded_after : List (ℕ × Loaded) → List Event → List (ℕ × Loaded)
loaded_after loaded [] = loaded
loaded_after loaded (e ∷ events) = loaded_after (then_loaded e loaded) events

-- the record that these steps make; of the logs and of earlier rounds it says nothing
abbrev pub round_record : List Event → PassRecord
round_record events = record { mark = mark_in events; round = 0; known = λ j. 0; loaded = loaded_after [] events; journal = [] }

-- pass p made the record that it has in this round
pub record IsRoundOf (p : ℕ) (part : PassPart) (events : List Event) : Type 0 where
  pub round : IsRound p events
  pub mark_is : part.mark ≡ mark_in events
  pub loaded_is : part.loaded ≡ (round_record events).loaded

-- ---- what it did

-- the round's tries to move a snapshot: of which session, at which number, and whether it was moved
abbrev pub moves_in : List Event → List (ℕ × (ℕ × Bool))
moves_in [] = []
moves_in (Move p j number moved ∷ events) = (j, (number, moved)) ∷ moves_in events
moves_in (_ ∷ events) = moves_in events

-- how many groups the round took
abbrev pub takes_in : List Event → ℕ
takes_in [] = 0
takes_in (Take p mark ∷ events) = suc (takes_in events)
takes_in (_ ∷ events) = takes_in events

-- how many versions the round removed
abbrev pub gone_in : List Event → ℕ
gone_in [] = 0
gone_in (Reclaim p kind rid n ∷ events) = n + gone_in events
gone_in (_ ∷ events) = gone_in events

-- ---- its report

-- the tables of a mask, and all where none was loaded
abbrev pub masked_scope : Option ℕ → Scope
masked_scope None = All
masked_scope (Some mask) = Declared mask

-- the entry of a session's register, where it is live, with the tables of its mask
abbrev pub live_entry : ℕ → Register → Option ℕ → List Entry
live_entry j Idle mask = []
live_entry j (Entering f) mask = []
live_entry j (Live number declared moved) mask = record { session = j; number = number; scope = masked_scope mask; moved = moved } ∷ []

-- the entries of what was loaded in the order of sessions, the last one first
abbrev pub entries_of : List (ℕ × Loaded) → List Entry
entries_of [] = []
entries_of (e ∷ loaded) = entries_of loaded ++ live_entry e.0 e.1.register e.1.mask

-- the report of a round of this kind of collector, whatever room its list has
pub record IsReportOf (kind : Kind) (events : List Event) (report : Report) : Type 0 where
  pub kind_is : report.kind ≡ kind
  pub mark_is : report.mark ≡ mark_in events
  pub horizon_is : report.horizon ≡ horizon (round_record events)
  -- the versions that the steps of the round removed
  pub removed_is : report.removed ≡ gone_in events
  -- an entry for each live register that was loaded, in the order of sessions
  pub entries_are : report.entries.list ≡ entries_of (round_record events).loaded

-- the report of a round, in the form in which it is printed
abbrev pub round_told : Kind → List Event → Sweep
round_told kind events = record { kind = kind; mark = mark_in events; horizon = horizon (round_record events); removed = gone_in events; held = map told_of (entries_of (round_record events).loaded) }

-- ---- groups

-- how many groups a pass has seen taken
abbrev pub seen_taken : List Sight → ℕ
seen_taken [] = 0
seen_taken (Saw h ∷ sights) = seen_taken sights
seen_taken (Heard j log ∷ sights) = seen_taken sights
seen_taken (Took n ∷ sights) = max n (seen_taken sights)
seen_taken (Did e ∷ sights) = seen_taken sights
