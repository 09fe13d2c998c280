-- What each step makes of the view of the pass that makes it.
use Rattle.std.specs.Prelude.{◌≡◌, ℕ, suc, ◌^◌, ◌<◌, ◌≤◌, ◌==◌, Bool, true, false, Option, Some, None, IsTrue, List, [], ◌∷◌, ◌++◌, length, ⊤}
use Rattle.hg_base.specs.declared.scope.Scope.{Scope}
use Rattle.hg_base.specs.History.{History}
use Rattle.hg_base.specs.Lists.{Each}
use Rattle.atomic_table.specs.Table.{Me, Step}
use Rattle.hg_core.specs.declared.loaded.Loaded.{Loaded}
use Rattle.hg_core.specs.declared.register.Register.{Register}
use Rattle.hg_core.specs.declared.register.Register.TheVariants as registers
use Rattle.hg_core.specs.declared.journal.PassEntry.TheVariants.{Marked, Sampled, Masked, Tried}
use Rattle.hg_core.specs.declared.phase.Phase.{Phase}
use Rattle.hg_core.specs.declared.phase.Phase.TheVariants.{Idle, Declared, Probed, Entered, Fixed, Live}
use Rattle.hg_core.specs.declared.log.LogEntry.{LogEntry}
use Rattle.hg_core.specs.declared.log.LogEntry.TheVariants.{Began, Over}
use Rattle.hg_core.specs.Words.{IsRegister, number_of, shows_declared, register_of}
use Rattle.hg_core.specs.Logs.{UpTo}
use Rattle.hg_core.specs.Phases.{declared_in}
use Rattle.hg_core.specs.Events.{moved_in, masked_in}
use Rattle.hg_rule.specs.declared.view.SessionPart.{SessionPart}
use Rattle.hg_rule.specs.declared.view.PassPart.{PassPart}
use Rattle.hg_rule.specs.declared.view.Part.{Part}
use Rattle.hg_rule.specs.declared.view.Part.TheVariants.{OfSession, OfPass}
use Rattle.hg_rule.specs.declared.view.Sight.{Sight}
use Rattle.hg_rule.specs.declared.view.Sight.TheVariants.{Saw, Heard, Took, Did}
use Rattle.hg_rule.specs.declared.view.Event.TheVariants.{Declare, Probe, Enter, Fix, GoLive, End, Mark, Sample, SampleMask, Move}
use Rattle.hg_rule.specs.declared.view.View.{View}
use Rattle.hg_rule.specs.declared.view.Sizes.{Sizes}
use Rattle.hg_rule.specs.Words.{register_at, mask_at}
use Rattle.hg_rule.specs.Facts.{StartsWith, groups}
use Rattle.hg_rule.specs.Rules.{IsBacked}
use Rattle.hg_rule.specs.Views.{number, session, pass, others, then_has}

-- a number that a register can show
abbrev pub IsNumber : ℕ → Type 0
IsNumber n = n < 2 ^ 44

-- What was seen of the history is a beginning of this one, and no number that was heard or taken is over its last.
abbrev pub Within : History → Sight → Type 0
Within h (Saw g) = StartsWith h g.list
Within h (Heard j log) = UpTo (length h) log
Within h (Took n) = n ≤ length h
Within h (Did e) = ⊤

-- h is the whole history at a load of the mark n, so all that was seen of it before is a beginning
pub record IsHistoryAt (v : View) (n : ℕ) (h : History) : Type 0 where
  -- n is the length of the history
  pub is_length : length h ≡ n
  -- a register can show n
  pub number : IsNumber n
  -- what was seen before is a beginning of this history
  pub within : Each (Within h) v.sights

-- ---- a session's

-- a session's part in this phase, and else the same
abbrev pub in_phase : Phase → SessionPart → SessionPart
in_phase phase part = record part { phase = phase }

-- a session's part in this phase, with this entry as the newest of its log
abbrev pub logging : LogEntry → Phase → SessionPart → SessionPart
logging entry phase part = record part { phase = phase; log = entry ∷ part.log }

-- the number that a session in this phase loaded last
abbrev pub loaded_in : Phase → ℕ
loaded_in Idle = 0
loaded_in (Declared scope) = 0
loaded_in (Probed scope f) = f
loaded_in (Entered scope f) = f
loaded_in (Fixed scope f m) = m
loaded_in (Live at scope) = at

-- the number at which a session in this phase entered
abbrev pub entered_in : Phase → ℕ
entered_in Idle = 0
entered_in (Declared scope) = 0
entered_in (Probed scope f) = f
entered_in (Entered scope f) = f
entered_in (Fixed scope f m) = f
entered_in (Live at scope) = 0

-- w is v after the session declared the tables of this scope
abbrev pub Declares : View → Scope → View → Type 0
Declares v scope w = w ≡ then_has v (OfSession (number v) (in_phase (Declared scope) (session v)) ∷ others v) [] (Declare (number v) scope)

-- w is v after the session loaded the mark for the first time: n, and it has seen the history of that length
abbrev pub Probes : View → ℕ → View → Type 0
Probes v n w = (h : History) × (IsHistoryAt v n h × (w ≡ then_has v (OfSession (number v) (in_phase (Probed (declared_in (session v).phase) n) (session v)) ∷ others v)
    (Saw (groups h) ∷ []) (Probe (number v) n)))

-- w is v after the session's register shows that it enters at f
abbrev pub Enters : View → ℕ → View → Type 0
Enters v f w = w ≡ then_has v (OfSession (number v) (in_phase (Entered (declared_in (session v).phase) f) (session v)) ∷ others v) [] (Enter (number v) f)

-- w is v after the session loaded the mark again: n, and it has seen the history of that length
abbrev pub Fixes : View → ℕ → View → Type 0
Fixes v n w = (h : History) × (IsHistoryAt v n h × (w ≡ then_has v
    (OfSession (number v) (in_phase (Fixed (declared_in (session v).phase) (loaded_in (session v).phase) n) (session v)) ∷ others v) (Saw (groups h) ∷ []) (Fix (number v) n)))

-- w is v after the session went live at m, which is logged as begun
abbrev pub GoesLive : View → ℕ → Scope → View → Type 0
GoesLive v m scope w = w ≡ then_has v (OfSession (number v) (logging (Began m scope) (Live m scope) (session v)) ∷ others v)
    (Heard (number v) (Began m scope ∷ (session v).log) ∷ []) (GoLive (number v) m scope)

-- w is v after the session went to rest, which is logged as over
abbrev pub Ends : View → View → Type 0
Ends v w = w ≡ then_has v (OfSession (number v) (logging Over Idle (session v)) ∷ others v) (Heard (number v) (Over ∷ (session v).log) ∷ []) (End (number v))

-- ---- a collector pass's

-- the next round begins, with what was seen so far
abbrev pub beginning : ℕ → List Sight → PassPart → PassPart
beginning mark seen part = record part { mark = mark; round = suc part.round; seen = seen; loaded = []; journal = part.journal ++ Marked mark ∷ [] }

-- the first entry is session j's, with this register and no mask yet
abbrev pub loading : ℕ → Register → PassPart → PassPart
loading j register part = record part { loaded = (j, record { register = register; mask = None }) ∷ part.loaded; journal = part.journal ++ Sampled j register ∷ [] }

-- session j's entry has its mask
abbrev pub masking : ℕ → ℕ → PassPart → PassPart
masking j mask part = record part { loaded = masked_in j mask part.loaded; journal = part.journal ++ Masked j mask ∷ [] }

-- session j's entry is moved at this number
abbrev pub moving : ℕ → ℕ → PassPart → PassPart
moving j n part = record part { loaded = moved_in j part.loaded; journal = part.journal ++ Tried j n true ∷ [] }

-- session j's entry was not moved at this number, though the pass tried
abbrev pub missing : ℕ → ℕ → PassPart → PassPart
missing j n part = record part { journal = part.journal ++ Tried j n false ∷ [] }

-- w is v after the pass loaded the mark, n, and began a record; it has seen the history of that length
abbrev pub Marks : View → ℕ → View → Type 0
Marks v n w = (h : History) × (IsHistoryAt v n h × (w ≡ then_has v (OfPass (number v) (beginning n v.sights (pass v)) ∷ others v) (Saw (groups h) ∷ []) (Mark (number v) n)))

-- w is v after the pass loaded session j's register, and found this one
abbrev pub Samples : View → ℕ → Register → View → Type 0
Samples v j register w = w ≡ then_has v (OfPass (number v) (loading j register (pass v)) ∷ others v) [] (Sample (number v) j register)

-- w is v after the pass loaded session j's mask word, and found this mask
abbrev pub SamplesMask : View → ℕ → ℕ → View → Type 0
SamplesMask v j mask w = w ≡ then_has v (OfPass (number v) (masking j mask (pass v)) ∷ others v) [] (SampleMask (number v) j mask)

-- the parts of v after the pass tried to move session j's register at this number, which was moved or was not
abbrev pub after_try : Bool → ℕ → ℕ → View → List Part
after_try true j n v = OfPass (number v) (moving j n (pass v)) ∷ others v
after_try false j n v = OfPass (number v) (missing j n (pass v)) ∷ others v

-- w is v after the pass tried to move session j's snapshot n; `moved` says whether it did
abbrev pub Moves : View → ℕ → ℕ → Bool → View → Type 0
Moves v j n moved w = w ≡ then_has v (after_try moved j n v) [] (Move (number v) j n moved)

-- a live register, declared and not moved
abbrev pub IsMovable : Register → Type 0
IsMovable registers.Idle = ⊥
IsMovable (registers.Entering f) = ⊥
IsMovable (registers.Live n false moved) = ⊥
IsMovable (registers.Live n true true) = ⊥
IsMovable (registers.Live n true false) = ⊤

-- a register was loaded that is live and declared, and its mask was not
abbrev pub AwaitsMask : Option Loaded → Type 0
AwaitsMask None = ⊥
AwaitsMask (Some loaded) = IsTrue (shows_declared loaded.register) × (loaded.mask ≡ None)

-- this register was loaded
abbrev pub HasRegister : Register → Option Loaded → Type 0
HasRegister register None = ⊥
HasRegister register (Some loaded) = loaded.register ≡ register

-- ---- the same steps, as the table plays them: each takes the step, the seat before, the number found or stored, and the seat after

-- a view, and what else the seat has, which these steps leave as it is
abbrev pub Seated : Type 0
Seated = Me ℕ View

-- the step of `Declares`
abbrev pub declared : Scope → Step ℕ → Seated → ℕ → Seated → Type 0
declared scope step m n w = Declares m.0 scope w.0 × (w.1 ≡ m.1)

-- the step of `Probes`, by the mark that was found
abbrev pub probed : Step ℕ → Seated → ℕ → Seated → Type 0
probed step m n w = Probes m.0 n w.0 × (w.1 ≡ m.1)

-- the step of `Enters`, at the number that the phase has as loaded
abbrev pub entered : Step ℕ → Seated → ℕ → Seated → Type 0
entered step m n w = Enters m.0 (loaded_in (session m.0).phase) w.0 × (w.1 ≡ m.1)

-- the step of `Fixes`, by the mark that was found
abbrev pub fixed : Step ℕ → Seated → ℕ → Seated → Type 0
fixed step m n w = Fixes m.0 n w.0 × (w.1 ≡ m.1)

-- the step of `GoesLive`, at the number and with the scope that the phase has
abbrev pub went_live : Step ℕ → Seated → ℕ → Seated → Type 0
went_live step m n w = GoesLive m.0 (loaded_in (session m.0).phase) (declared_in (session m.0).phase) w.0 × (w.1 ≡ m.1)

-- the step of `Ends`
abbrev pub ended : Step ℕ → Seated → ℕ → Seated → Type 0
ended step m n w = Ends m.0 w.0 × (w.1 ≡ m.1)

-- the step of `Marks`, by the mark that was found
abbrev pub marked : Step ℕ → Seated → ℕ → Seated → Type 0
marked step m n w = Marks m.0 n w.0 × (w.1 ≡ m.1)

-- the step of `Samples`, for the session at whose register's place the word is
abbrev pub sampled : Step ℕ → Seated → ℕ → Seated → Type 0
sampled step m n w = ((j : ℕ) → step.word ≡ register_at j → Samples m.0 j (register_of n) w.0) × IsRegister (register_of n) × (w.1 ≡ m.1)

-- the step of `SamplesMask`, for the session at whose mask's place the word is
abbrev pub masked : Step ℕ → Seated → ℕ → Seated → Type 0
masked step m n w = ((j : ℕ) → step.word ≡ mask_at j → SamplesMask m.0 j n w.0) × (w.1 ≡ m.1)

-- the register was moved where the word was the first operand, which shows it
abbrev pub tried : Step ℕ → Seated → ℕ → Seated → Type 0
tried step m n w = ((j : ℕ) → step.word ≡ register_at j → Moves m.0 j (number_of (register_of step.first)) (n == step.first) w.0) × (w.1 ≡ m.1)

-- the view stays, and is true
abbrev pub looked : Sizes → Step ℕ → Seated → ℕ → Seated → Type 0
looked z step m n w = IsBacked z n w.0 × (w.0 ≡ m.0) × (w.1 ≡ m.1)
