-- The steps of a run: events, and moves of seats.
use Rattle.std.specs.Prelude.{◌≡◌, ◌⊎◌, ℕ, suc, ◌<◌, ◌≤◌, List, [], ◌∷◌, ◌++◌, map, None, ⊤}
use Rattle.hg_core.specs.Passes.{PassRecord, no_record}
use Rattle.hg_core.specs.Counters.{none_removed}
use Rattle.hg_core.specs.declared.visit.Visit.{Visit}
use Rattle.hg_core.specs.Visits.{IsVisiting, giving}
use Rattle.hg_core.specs.State.{CoreState, opened}
use Rattle.hg_core.specs.Events.{Event, put, happens, May}

-- A pass takes a bucket (Arrive) and gives it back (Leave): between the two is a visit. A pass is split in two with the same
-- record (Split), and two passes become one (Unite), after which there are m passes. These touch no word and no version. That one
-- alone has a bucket is the rule of seats above.
pub data Step : Type 0 where
  Act : (event : Event) → Step
  Arrive : (p b : ℕ) → Step
  Leave : (p : ℕ) → Step
  Split : (p : ℕ) → Step
  Unite : (p q m : ℕ) → Step

-- a visit more, with the mark of the pass's record and the number of its round
abbrev pub arrived : CoreState → ℕ → ℕ → CoreState
arrived s p b = record s { visits = put s.visits p (record { bucket = b; mark = (s.pass p).mark; round = (s.pass p).round; removed = none_removed; given = None } ∷ s.visits p) }

-- the newest visit of a pass is over
abbrev pub departed : CoreState → ℕ → CoreState
departed s p = record s { visits = put s.visits p (giving s.bucket (s.visits p)) }

-- a pass more, with the record of pass p and an empty journal
abbrev pub split : CoreState → ℕ → CoreState
split s p = record s { passes = suc s.passes; pass = put s.pass s.passes (record (s.pass p) { journal = [] }) }

-- the visits after pass p took over those of pass q
abbrev pub taken_over : CoreState → ℕ → ℕ → ℕ → List Visit
taken_over s p q = put (put s.visits p (s.visits q ++ s.visits p)) q []

-- the record of pass p with the journal of pass q after its own
abbrev pub with_journal : CoreState → ℕ → ℕ → PassRecord
with_journal s p q = record (s.pass p) { journal = (s.pass p).journal ++ (s.pass q).journal }

-- pass p has the visits and the journal of pass q too, which is as a new one, and there are m passes
abbrev pub united : CoreState → ℕ → ℕ → ℕ → CoreState
united s p q m = record s { passes = m; pass = put (put s.pass p (with_journal s p q)) q no_record; visits = taken_over s p q }

-- the state after a step
abbrev pub step : CoreState → Step → CoreState
step s (Act event) = happens s event
step s (Arrive p b) = arrived s p b
step s (Leave p) = departed s p
step s (Split p) = split s p
step s (Unite p q m) = united s p q m

-- pass p and bucket b exist, so the pass may come to the bucket
pub record MayArrive (s : CoreState) (p b : ℕ) : Type 0 where
  pub pass : p < s.passes
  pub bucket : b < s.buckets

-- a pass is as one that was never there: it has no record, and no visits
pub record IsUnused (s : CoreState) (p : ℕ) : Type 0 where
  pub bare : s.pass p ≡ no_record
  pub none : s.visits p ≡ []

-- two different passes exist, and from m on none is in use once they are one
pub record MayUnite (s : CoreState) (p q m : ℕ) : Type 0 where
  pub apart : p ≡ q → ⊥
  pub first : p < s.passes
  pub other : q < s.passes
  pub most : m ≤ s.passes
  pub rest : (x : ℕ) → (x < m) ⊎ IsUnused (united s p q m) x

-- when a step may happen
abbrev pub Can : CoreState → Step → Type 0
Can s (Act event) = May s event
Can s (Arrive p b) = MayArrive s p b
Can s (Leave p) = (b : ℕ) × IsVisiting b (s.visits p)
Can s (Split p) = p < s.passes
Can s (Unite p q m) = MayUnite s p q m

-- each step may happen in its turn
abbrev pub Run : CoreState → List Step → Type 0
Run s [] = ⊤
Run s (e ∷ steps) = Can s e × Run (step s e) steps

-- the state after a list of steps
abbrev pub run : CoreState → List Step → CoreState
run s [] = s
run s (e ∷ steps) = run (step s e) steps

-- One state leads to another: there is a list of steps from the one to the other, each of which may happen in its turn.
pub record LeadsTo (start s : CoreState) : Type 0 where
  pub steps : List Step
  pub may : Run start steps
  pub leads : run start steps ≡ s

-- events alone
abbrev pub acts : List Event → List Step
acts events = map Act events

-- P holds after every list of steps, from the state in which a board of any numbers opens
abbrev pub Always : (CoreState → Type 0) → Type 0
Always P = (sessions tables buckets passes quota : ℕ) (steps : List Step) → Run (opened sessions tables buckets passes quota) steps → P (run (opened sessions tables buckets passes quota) steps)
