-- What a begin, an end and a gather make of a pass's view.
use Rattle.std.specs.Prelude.{◌≡◌, ℕ, suc, ◌≤◌, List, [], ◌∷◌, ◌++◌, length, map, Option, Some, None, ⊤}
use Rattle.hg_base.specs.declared.scope.Scope.{Scope}
use Rattle.hg_base.specs.Lists.{Each}
use Rattle.hg_base.specs.History.{History}
use Rattle.hg_core.specs.declared.loaded.Loaded.{Loaded}
use Rattle.hg_core.specs.declared.journal.PassEntry.{PassEntry}
use Rattle.hg_core.specs.declared.journal.PassEntry.TheVariants.{Marked, Sampled, Masked}
use Rattle.hg_core.specs.declared.phase.Phase.TheVariants.{Live}
use Rattle.hg_core.specs.declared.log.LogEntry.TheVariants.{Began}
use Rattle.hg_core.specs.Logs.{UpTo}
use Rattle.hg_rule.specs.declared.view.PassPart.{PassPart}
use Rattle.hg_rule.specs.declared.view.Part.TheVariants.{OfSession, OfPass}
use Rattle.hg_rule.specs.declared.view.Sight.{Sight}
use Rattle.hg_rule.specs.declared.view.Sight.TheVariants.{Saw, Heard, Took, Did}
use Rattle.hg_rule.specs.declared.view.Event.{Event}
use Rattle.hg_rule.specs.declared.view.Event.TheVariants.{Declare, Probe, Enter, Fix, GoLive, Mark, Sample, SampleMask}
use Rattle.hg_rule.specs.declared.view.View.{View}
use Rattle.hg_rule.specs.Facts.{StartsWith, IsAmong, groups}
use Rattle.hg_rule.specs.Views.{number, session, pass, others, seeing}
use Rattle.hg_rule.specs.Steps.{logging}
use Rattle.hg_tracker.specs.Entries.{down_from}
use Rattle.hg_tracker.specs.Gathers.{IsFull}

-- what was seen is at or below n: the history's last number, those that were heard in logs, and those taken
abbrev pub AtMost : ℕ → Sight → Type 0
AtMost n (Saw h) = length h.list ≤ n
AtMost n (Heard j log) = UpTo n log
AtMost n (Took m) = m ≤ n
AtMost n (Did e) = ⊤

-- a history of n groups was seen
abbrev pub SawGroups : ℕ → List Sight → Type 0
SawGroups n sights = (h : History) × (length h ≡ n) × IsAmong (Saw (groups h)) sights

-- a session began at a snapshot that is at or over everything that it had seen, and has heard its own log with the begin
pub record HasBegun (v : View) (at : ℕ) (scope : Scope) (w : View) : Type 0 where
  pub parts : w.parts ≡ OfSession (number v) (logging (Began at scope) (Live at scope) (session v)) ∷ others v
  pub most : Each (AtMost at) v.sights
  pub kept : StartsWith w.sights v.sights
  pub heard : IsAmong (Heard (number v) (Began at scope ∷ (session v).log)) w.sights
  pub from : ℕ
  pub events : w.events ≡ v.events ++ Declare (number v) scope ∷ Probe (number v) from ∷ Enter (number v) from ∷ Fix (number v) at ∷ GoLive (number v) at scope ∷ []

-- the sample of a mask, where it was loaded
abbrev pub mask_sample : ℕ → ℕ → Option ℕ → List Event
mask_sample p j None = []
mask_sample p j (Some mask) = SampleMask p j mask ∷ []

-- the sample of a session's register, and of its mask directly after it
abbrev pub sample_of : ℕ → ℕ → Loaded → List Event
sample_of p j loaded = Sample p j loaded.register ∷ mask_sample p j loaded.mask

-- the samples of sessions, in the order in which they were loaded; the last one is first in a record
abbrev pub samples_of : ℕ → List (ℕ × Loaded) → List Event
samples_of p [] = []
samples_of p (e ∷ loaded) = samples_of p loaded ++ sample_of p e.0 e.1

-- the journal's entry of a mask, where it was loaded
abbrev pub mask_note : ℕ → Option ℕ → List PassEntry
mask_note j None = []
mask_note j (Some mask) = Masked j mask ∷ []

-- the journal's entries of a session's register, and of its mask directly after it
abbrev pub note_of : ℕ → Loaded → List PassEntry
note_of j loaded = Sampled j loaded.register ∷ mask_note j loaded.mask

-- those of all that a record loaded, in the order in which it was loaded
abbrev pub notes_of : List (ℕ × Loaded) → List PassEntry
notes_of [] = []
notes_of (e ∷ loaded) = notes_of loaded ++ note_of e.0 e.1

-- a pass loaded a session's register, and its mask where that is live and declared, and nothing else
abbrev pub Loads : View → ℕ → Loaded → View → Type 0
Loads v j loaded w = w ≡ seeing (OfPass (number v) (record (pass v) { loaded = (j, loaded) ∷ (pass v).loaded; journal = (pass v).journal ++ note_of j loaded }) ∷ others v) v.sights (v.events ++ sample_of (number v) j loaded)

-- the record of a pass's next round, which begins at a mark, with what it loaded of these sessions, and this journal
abbrev pub gathering : ℕ → List (ℕ × Loaded) → List PassEntry → View → PassPart
gathering mark loaded journal v = record (pass v) { mark = mark; round = suc (pass v).round; seen = v.sights; loaded = loaded; journal = journal }

-- the journal after a gather: its mark, and what was loaded
abbrev pub gathered_notes : ℕ → List (ℕ × Loaded) → View → List PassEntry
gathered_notes mark loaded v = ((pass v).journal ++ Marked mark ∷ []) ++ notes_of loaded

-- a pass began a record at a mark, of which it saw the history, and loaded the words of the first sessions in order
pub record HasLoaded (v : View) (mark sessions : ℕ) (loaded : List (ℕ × Loaded)) (w : View) : Type 0 where
  pub parts : w.parts ≡ OfPass (number v) (gathering mark loaded (gathered_notes mark loaded v) v) ∷ others v
  pub keys : map (λ e. e.0) loaded ≡ down_from sessions
  pub registers : Each (λ e. IsFull e.1) loaded
  pub most : Each (AtMost mark) v.sights
  pub saw : SawGroups mark w.sights
  pub kept : StartsWith w.sights v.sights
  pub events : w.events ≡ (v.events ++ Mark (number v) mark ∷ []) ++ samples_of (number v) loaded

-- the record's own mark and sessions
abbrev pub HasGathered : View → ℕ → View → Type 0
HasGathered v sessions w = HasLoaded v (pass w).mark sessions (pass w).loaded w
