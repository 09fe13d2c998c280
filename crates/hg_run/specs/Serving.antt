-- When each status comes.
use Rattle.std.specs.Prelude.{◌≡◌, ℕ, ◌<◌, ◌≤◌, ◌⊎◌, List, length, map, take, Bool, true, false, Some, None, ⊤}
use Rattle.std.specs.List.{flat_map}
use Rattle.hg_base.specs.declared.limits.TheConstants.{MOST_SCRIPT_BYTES}
use Rattle.hg_base.specs.declared.line.Printed.{Printed}
use Rattle.hg_base.specs.Script.{Script, replay}
use Rattle.hg_base.specs.Flows.{Inflow, Outflow}
use Rattle.hg_base.specs.Sound.{IsSound}
use Rattle.hg_base.specs.Text.{text_of, totals_records}
use Rattle.hg_records.specs.Bytes.{record_bytes}
use Rattle.hg_exact.specs.Replayed.{plain, replayed}
use Rattle.hg_script.specs.declared.code.Code.{Code}
use Rattle.hg_script.specs.Fields.{rows_of}
use Rattle.hg_script.specs.Meaning.{refusal_of, script_of}
use Rattle.hg_streams.specs.declared.limits.TheConstants.{MOST_AUDIT_BYTES}
use Rattle.hg_streams.specs.declared.status.Status.{Status}
use Rattle.hg_streams.specs.declared.status.Status.TheVariants.{Done, Usage, BadScript, ReadFault, WriteFault, TooLong, LongInput, NoMemory, Spent}
use Rattle.hg_seed.specs.Generator.{IsMade}
use Rattle.hg_streams.specs.Parting.{AreParts}
use Rattle.hg_streams.specs.Streams.{Change, FailsToRead, Gives, IsTooLong, ReadsAll, Took, WriteFailed}
use Rattle.hg_words.specs.Options.{options_of}
use Rattle.hg_run.specs.Words.{AsksFor, IsMaking, IsReading, Settings, Task, audits, dumps, makes, reads, task_of}
use Rattle.hg_run.specs.Dumping.{IsDumpedFor}
use Rattle.hg_run.specs.Printing.{AreTotalsOf, IsPrintedFor}
use Rattle.hg_run.specs.Judging.{IsJudgedBy}

-- how many bytes the source may have; one that no task reads has none
abbrev pub most_bytes : Task → ℕ
most_bytes (reads settings) = MOST_SCRIPT_BYTES
most_bytes (makes seed settings) = 0
most_bytes audits = MOST_AUDIT_BYTES
most_bytes (dumps settings) = MOST_SCRIPT_BYTES

-- the same by the words
abbrev pub most_asked : List (List ℕ) → ℕ
most_asked words = elim (options_of words) [ Some options ↦ most_bytes (task_of options) | None ↦ 0 ]

-- ---- what the bytes of a script mean

-- a text that the script which the bytes mean may print under these settings
pub record IsTextFor (settings : Settings) (bytes text : List ℕ) : Type 0 where
  pub valid : refusal_of (rows_of bytes) ≡ None
  pub printed : IsPrintedFor settings (script_of (rows_of bytes)) text

-- the same with dumps of its tables
pub record IsDumpFor (settings : Settings) (bytes text : List ℕ) : Type 0 where
  pub valid : refusal_of (rows_of bytes) ≡ None
  pub dumped : IsDumpedFor settings (script_of (rows_of bytes)) text

-- a text of which P holds with all the bytes of the source, at most so many
pub record AnswersSource (most : ℕ) (P : List ℕ → List ℕ → Type 0) (source : Change Inflow) (text : List ℕ) : Type 0 where
  pub bytes : List ℕ
  pub all : ReadsAll most source bytes
  pub text_for : P bytes text

-- a text that does what is asked
abbrev pub Answers : Task → Change Inflow → List ℕ → Type 0
Answers (reads settings) source text = AnswersSource MOST_SCRIPT_BYTES (IsTextFor settings) source text
Answers (makes seed settings) source text = AreTotalsOf seed settings text
Answers audits source text = AnswersSource MOST_AUDIT_BYTES IsJudgedBy source text
Answers (dumps settings) source text = AnswersSource MOST_SCRIPT_BYTES (IsDumpFor settings) source text

-- ---- what was done with them

-- which of the bytes of a source are the script's: all of them, or those before the line that parts it; one that is made has none there
abbrev pub IsScriptIn : Task → List ℕ → List ℕ → Type 0
IsScriptIn (reads settings) bytes script = script ≡ bytes
IsScriptIn (makes seed settings) bytes script = ⊥
IsScriptIn audits bytes script = (text : List ℕ) × AreParts bytes script text
IsScriptIn (dumps settings) bytes script = script ≡ bytes

-- the same of bytes that are no more than an audit's may be
abbrev pub HoldsScript : Task → List ℕ → List ℕ → Type 0
HoldsScript (reads settings) bytes script = IsScriptIn (reads settings) bytes script
HoldsScript (makes seed settings) bytes script = ⊥
HoldsScript audits bytes script = IsScriptIn audits bytes script × (length bytes ≤ MOST_AUDIT_BYTES)
HoldsScript (dumps settings) bytes script = IsScriptIn (dumps settings) bytes script

-- the script has more bytes than one may have
pub record HasLongScript (task : Task) (bytes : List ℕ) : Type 0 where
  pub script : List ℕ
  pub within : IsScriptIn task bytes script
  pub long : MOST_SCRIPT_BYTES < length script

-- The script in the source has. An audit reads the source to its end; otherwise no more is read than a byte too many.
abbrev pub GivesLongScript : Task → Change Inflow → Type 0
GivesLongScript (reads settings) source = IsTooLong MOST_SCRIPT_BYTES source
GivesLongScript (makes seed settings) source = ⊥
GivesLongScript audits source = (bytes : List ℕ) × ReadsAll MOST_AUDIT_BYTES source bytes × HasLongScript audits bytes
GivesLongScript (dumps settings) source = IsTooLong MOST_SCRIPT_BYTES source

-- the source of an audit gave a byte too many, and no more was read
abbrev pub GivesLongInput : Task → Change Inflow → Type 0
GivesLongInput (reads settings) source = ⊥
GivesLongInput (makes seed settings) source = ⊥
GivesLongInput audits source = IsTooLong MOST_AUDIT_BYTES source
GivesLongInput (dumps settings) source = ⊥

-- the first record of the script that breaks a rule, and its first code
pub record RefusesScript (task : Task) (bytes : List ℕ) (line : ℕ) (code : Code) : Type 0 where
  pub script : List ℕ
  pub within : IsScriptIn task bytes script
  pub short : length script ≤ MOST_SCRIPT_BYTES
  pub first : refusal_of (rows_of script) ≡ Some (line, code)

-- the same of the script in the source
pub record Refuses (task : Task) (source : Change Inflow) (line : ℕ) (code : Code) : Type 0 where
  pub bytes : List ℕ
  pub all : ReadsAll (most_bytes task) source bytes
  pub refused : RefusesScript task bytes line code

-- the sink took the whole text
pub record WritesAll (task : Task) (source : Change Inflow) (sink : Change Outflow) : Type 0 where
  pub text : List ℕ
  pub answers : Answers task source text
  pub taken : Took sink text

-- what the bytes of the source mean, which break no rule
pub record IsReadFrom (source : Change Inflow) (script : Script) : Type 0 where
  pub bytes : List ℕ
  pub all : ReadsAll MOST_SCRIPT_BYTES source bytes
  pub valid : refusal_of (rows_of bytes) ≡ None
  pub same : script ≡ script_of (rows_of bytes)

-- The sink took a text of a printed value that is sound for a script, and whose lines are those that are replayed, but for what their
-- reports say was removed and moved.
pub record TakesExactly (P : Script → Type 0) (text : Script → Printed → List ℕ) (sink : Change Outflow) : Type 0 where
  pub script : Script
  pub is : P script
  pub printed : Printed
  pub sound : IsSound replay script printed
  pub exact : map plain printed.lines ≡ replayed script
  pub taken : Took sink (text script printed)

-- the same of a replay: that of the script in the source, or that of a seed's script, of which the totals are written
abbrev pub WritesExactly : Task → Change Inflow → Change Outflow → Type 0
WritesExactly (reads settings) source sink = settings.mode ≡ replay → TakesExactly (IsReadFrom source) (text_of record_bytes) sink
WritesExactly (makes seed settings) source sink = TakesExactly (IsMade seed) (λ script printed. flat_map record_bytes (totals_records printed.totals)) sink
WritesExactly audits source sink = ⊤
WritesExactly (dumps settings) source sink = ⊤

-- the sink failed, and took no more than a prefix of the text
pub record WritesPart (task : Task) (source : Change Inflow) (sink : Change Outflow) : Type 0 where
  pub failed : WriteFailed sink
  pub text : List ℕ
  pub answers : Answers task source text
  pub count : ℕ
  pub less : count < length text
  pub taken : Took sink (take count text)

-- when each status comes; running out of memory says nothing, and `Spent` is of conversations alone
abbrev pub Comes : List (List ℕ) → Change Inflow → Change Outflow → Status → Type 0
Comes words source sink Done = AsksFor words (λ task. WritesAll task source sink)
Comes words source sink Usage = options_of words ≡ None
Comes words source sink (BadScript line code) = AsksFor words (λ task. Refuses task source line code)
Comes words source sink ReadFault = AsksFor words (λ task. IsReading task × FailsToRead (most_bytes task) source)
Comes words source sink WriteFault = AsksFor words (λ task. WritesPart task source sink)
Comes words source sink TooLong = AsksFor words (λ task. GivesLongScript task source)
Comes words source sink LongInput = AsksFor words (λ task. GivesLongInput task source)
Comes words source sink NoMemory = ⊤
Comes words source sink Spent = ⊥

-- whether a sink may have taken something
abbrev pub may_write : Status → Bool
may_write Done = true
may_write WriteFault = true
may_write _ = false

-- a status, or want of memory
abbrev pub IsUnlessNoMemory : Status → Status → Type 0
IsUnlessNoMemory status wanted = (status ≡ wanted) ⊎ (status ≡ NoMemory)

-- What a source holds that shows its bytes and does not fail decides the answer, where memory is found. Whether there is one hangs on
-- the script's bytes alone, which are all of them, or those before the line that parts them. A script that is made is replayed whatever
-- the source holds.
pub record IsDecided (words : List (List ℕ)) (source : Change Inflow) (sink : Change Outflow) (status : Status) : Type 0 where
  pub complete : (bytes script : List ℕ) → AsksFor words (λ task. HoldsScript task bytes script) → Gives source bytes → length script ≤ MOST_SCRIPT_BYTES →
      refusal_of (rows_of script) ≡ None → (WriteFailed sink → ⊥) → IsUnlessNoMemory status Done
  pub bad_script : (bytes script : List ℕ) (line : ℕ) (code : Code) → AsksFor words (λ task. HoldsScript task bytes script) → Gives source bytes → length script ≤ MOST_SCRIPT_BYTES →
      refusal_of (rows_of script) ≡ Some (line, code) → IsUnlessNoMemory status (BadScript line code)
  pub too_long : (bytes script : List ℕ) → AsksFor words (λ task. HoldsScript task bytes script) → Gives source bytes → MOST_SCRIPT_BYTES < length script → IsUnlessNoMemory status TooLong
  pub long_input : (bytes : List ℕ) → AsksFor words (λ task. task ≡ audits) → Gives source bytes → MOST_AUDIT_BYTES < length bytes → IsUnlessNoMemory status LongInput
  pub loaded : AsksFor words IsMaking → (WriteFailed sink → ⊥) → IsUnlessNoMemory status Done

-- ---- what the steps refuse

-- why bytes have no text
abbrev pub RefusesBytes : Task → List ℕ → Status → Type 0
RefusesBytes task bytes (BadScript line code) = RefusesScript task bytes line code
RefusesBytes task bytes TooLong = HasLongScript task bytes
RefusesBytes task bytes NoMemory = ⊤
RefusesBytes task bytes _ = ⊥

-- why a source has no text
abbrev pub RefusesSource : Task → Change Inflow → Status → Type 0
RefusesSource task source (BadScript line code) = Refuses task source line code
RefusesSource task source ReadFault = FailsToRead (most_bytes task) source
RefusesSource task source TooLong = GivesLongScript task source
RefusesSource task source LongInput = GivesLongInput task source
RefusesSource task source NoMemory = ⊤
RefusesSource task source _ = ⊥

-- why what is asked has no text: a script that is made wants memory alone
abbrev pub RefusesTask : Task → Change Inflow → Status → Type 0
RefusesTask (makes seed settings) source status = status ≡ NoMemory
RefusesTask task source status = RefusesSource task source status
