-- What a collector's pass loaded, and what follows for the snapshots in use.
-- Trackers of snapshots, and moving a long one to the tables that it declared, are those of Lee et al., "Hybrid Garbage
-- Collection for Multi-Version Concurrency Control in SAP HANA", SIGMOD 2016. That a session shows that it enters is own.
use Rattle.std.specs.Prelude.{ℕ, List, [], ◌∷◌, Bool, true, false, ◌||◌, not, ◌==◌, min, if◌then◌else◌, Option, Some, None, IsSome, IfSome, IsTrue}
use Rattle.hg_base.specs.declared.rid.TableId.{TableId}
use Rattle.hg_base.specs.declared.scope.Scope.TheVariants.{Declared}
use Rattle.hg_base.specs.Transcript.{has}
use Rattle.hg_core.specs.declared.loaded.Loaded.{Loaded}
use Rattle.hg_core.specs.declared.journal.PassEntry.{PassEntry}
use Rattle.hg_core.specs.declared.register.Register.{Register}
use Rattle.hg_core.specs.declared.register.Register.TheVariants.{Idle, Entering, Live}
use Rattle.hg_core.specs.Words.{shows_declared}
use Rattle.hg_core.specs.Phases.{IsSession}

-- The record of a pass: the mark that it loaded, the number of its round, which is how often it has loaded the mark, how many
-- entries it had seen then of each log, and the registers that it loaded since, each with its session and with the mask word, once
-- that was loaded too, the last one first. And its journal: all that it ever loaded, tried and took, oldest entry first.
pub record PassRecord : Type 0 where
  pub mark : ℕ
  pub round : ℕ
  pub known : ℕ → ℕ
  pub loaded : List (ℕ × Loaded)
  pub journal : List PassEntry

-- the record of a pass that has not begun one
abbrev pub no_record : PassRecord
no_record = record { mark = 0; round = 0; known = λ j. 0; loaded = []; journal = [] }

-- what was loaded of session j
abbrev pub found : ℕ → List (ℕ × Loaded) → Option Loaded
found j [] = None
found j (e ∷ loaded) = if j == e.0 then Some e.1 else found j loaded

-- the mask was loaded where the register is live and declared
abbrev pub HasMask : Loaded → Type 0
HasMask loaded = IsTrue (shows_declared loaded.register) → IsSome loaded.mask

-- every session's register was loaded, and the mask of every one that is live and declared
pub record IsWhole (sessions : ℕ) (pass : PassRecord) : Type 0 where
  pub registers : (j : ℕ) → IsSession sessions j → IsSome (found j pass.loaded)
  pub masks : (j : ℕ) → IfSome (found j pass.loaded) HasMask

-- the lesser of a number and that of an entering register
abbrev pub lower : ℕ → Register → ℕ
lower n Idle = n
lower n (Entering f) = min f n
lower n (Live number declared moved) = n

-- the least of a number and those of all entering registers
abbrev pub least_entering : ℕ → List (ℕ × Loaded) → ℕ
least_entering n [] = n
least_entering n (e ∷ loaded) = lower (least_entering n loaded) e.1.register

-- the horizon: the least of the mark and all entering numbers
abbrev pub horizon : PassRecord → ℕ
horizon pass = least_entering pass.mark pass.loaded

-- the number of a live register that passes a test of whether it is moved and of its mask, before others
abbrev pub if_live : (Bool → Option ℕ → Bool) → Register → Option ℕ → List ℕ → List ℕ
if_live test Idle mask numbers = numbers
if_live test (Entering f) mask numbers = numbers
if_live test (Live number declared moved) mask numbers = if test moved mask then number ∷ numbers else numbers

-- the numbers of the live registers that pass a test
abbrev pub live_numbers : (Bool → Option ℕ → Bool) → List (ℕ × Loaded) → List ℕ
live_numbers test [] = []
live_numbers test (e ∷ loaded) = if_live test e.1.register e.1.mask (live_numbers test loaded)

-- whether a mask was loaded and has the table
abbrev pub mask_has : TableId → Option ℕ → Bool
mask_has table None = false
mask_has table (Some mask) = has (Declared mask) table

-- the snapshots that count for a table: those that were not moved, and those whose mask was loaded and has the table
abbrev pub recorded : TableId → PassRecord → List ℕ
recorded table pass = live_numbers (λ moved mask. not moved || mask_has table mask) pass.loaded

-- all snapshots
abbrev pub all_recorded : PassRecord → List ℕ
all_recorded pass = live_numbers (λ moved mask. true) pass.loaded

-- the least of a number and a list's
abbrev pub least : ℕ → List ℕ → ℕ
least n [] = n
least n (m ∷ numbers) = min m (least n numbers)

-- the bound of the group collector: the least of the horizon and all snapshots
abbrev pub group_bound : PassRecord → ℕ
group_bound pass = least (horizon pass) (all_recorded pass)

-- the bound of a table: the least of the horizon and the snapshots that count for it
abbrev pub table_bound : TableId → PassRecord → ℕ
table_bound table pass = least (horizon pass) (recorded table pass)
