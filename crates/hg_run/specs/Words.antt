-- What the words of the command line ask for.
use Rattle.std.specs.Prelude.{◌≡◌, ℕ, List, Some, ⊤}
use Rattle.hg_base.specs.Script.{Mode, replay, run}
use Rattle.hg_words.specs.declared.options.Options.{Options}
use Rattle.hg_words.specs.declared.options.Command.TheVariants.{Run, Load, Audit, Dump}
use Rattle.hg_words.specs.Options.{options_of}

-- How a script is run: in which mode, over how many buckets, and how many commit numbers behind the mark a snapshot is long in use.
pub record Settings : Type 0 where
  pub mode : Mode
  pub buckets : ℕ
  pub long : ℕ

-- the settings of these options in a mode
abbrev pub settings_in : Mode → Options → Settings
settings_in mode options = record { mode = mode; buckets = options.buckets; long = options.long }

-- what the words say of it: a script that is made from a seed is replayed, and one whose tables are dumped runs in threads
abbrev pub mode_of : Options → Mode
mode_of options = elim options.command [ Run ↦ run options.rounds | Dump ↦ run options.rounds | _ ↦ replay ]

-- the settings that the options give
abbrev pub settings_of : Options → Settings
settings_of options = settings_in (mode_of options) options

-- how many share an interval round: only a `run` has more than one
abbrev pub sweepers_in : Options → ℕ
sweepers_in options = elim options.command [ Run ↦ options.sweepers | _ ↦ 1 ]

-- The text of the script in the source; the totals alone of the script that is made from a seed; the verdict on the text that
-- follows the script in the source; or the text of the script in the source with dumps of its tables.
pub data Task : Type 0 where
  reads : Settings → Task
  makes : ℕ → Settings → Task
  audits : Task
  dumps : Settings → Task

-- the task that the options ask for
abbrev pub task_of : Options → Task
task_of options = elim options.command [ Load seed ↦ makes seed (settings_of options) | Audit ↦ audits | Dump ↦ dumps (settings_of options) | _ ↦ reads (settings_of options) ]

-- the task reads the source
abbrev pub IsReading : Task → Type 0
IsReading (reads settings) = ⊤
IsReading (makes seed settings) = ⊥
IsReading audits = ⊤
IsReading (dumps settings) = ⊤

-- the task makes its script from a seed
abbrev pub IsMaking : Task → Type 0
IsMaking (reads settings) = ⊥
IsMaking (makes seed settings) = ⊤
IsMaking audits = ⊥
IsMaking (dumps settings) = ⊥

-- the words ask for something, and P holds of it
pub record AsksFor (words : List (List ℕ)) (P : Task → Type 0) : Type 0 where
  pub options : Options
  pub asked : options_of words ≡ Some options
  pub holds : P (task_of options)
