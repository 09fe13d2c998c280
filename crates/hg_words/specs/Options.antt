-- What the words mean.
use Rattle.std.specs.Prelude.{ℕ, ◌≤◌, ◌^◌, ◌&&◌, List, [], ◌∷◌, codes, Option, Some, None, option_and_then, if◌then◌else◌, nat_lt, bytes_eq}
use Rattle.std.specs.Str.Parse.{digits_value, without_leading_plus}
use Rattle.clap.specs.ValueTests.{is_numeral}
use Rattle.clap.specs.Words.{Row, Text, matches_of, one_of, first_of}
use Rattle.clap.specs.Faults.{fault_of}
use Rattle.clap.specs.Kinds.{Kinds}
use Rattle.hg_words.specs.declared.options.Options.{Options}
use Rattle.hg_words.specs.declared.options.Command.{Command}
use Rattle.hg_words.specs.declared.options.Command.TheVariants.{Replay, Run, Load, Audit, Dump}
use Rattle.hg_words.specs.Line.{command_line}

-- a text as a number of so many bits
abbrev pub number_of : ℕ → Text → Option ℕ
number_of bits text = let digits = without_leading_plus text in
    if is_numeral digits && nat_lt (digits_value 10 digits) (2 ^ bits) then Some (digits_value 10 digits) else None

-- what is to be done: `load` has a seed, and the four others have none
abbrev pub command_of : Text → Option ℕ → Option Command
command_of mode None = if bytes_eq mode (codes "replay") then Some Replay else
    (if bytes_eq mode (codes "run") then Some Run else (if bytes_eq mode (codes "audit") then Some Audit else (if bytes_eq mode (codes "dump") then Some Dump else None)))
command_of mode (Some seed) = if bytes_eq mode (codes "load") then Some (Load seed) else None

-- the number of so many bits that `clap` found for a name
abbrev pub named_number : ℕ → Text → List Row → Option ℕ
named_number bits name rows = option_and_then (number_of bits) (one_of name rows)

-- the command among what `clap` found: its mode, with its seed where it has one
abbrev pub command_in : List Row → Option Command
command_in rows = option_and_then (λ mode. command_of mode (named_number 64 (codes "seed") rows)) (first_of (codes "mode") rows)

-- the options of a command and four numbers, if all five were found
abbrev pub options_of_all : Option Command → Option ℕ → Option ℕ → Option ℕ → Option ℕ → Option Options
options_of_all (Some command) (Some buckets) (Some long) (Some rounds) (Some sweepers) = Some (record { command = command; buckets = buckets; long = long; rounds = rounds; sweepers = sweepers })
options_of_all _ _ _ _ _ = None

-- the options among what `clap` found
abbrev pub options_in : List Row → Option Options
options_in rows = options_of_all (command_in rows) (named_number 32 (codes "buckets") rows) (named_number 64 (codes "long") rows) (named_number 32 (codes "rounds") rows)
    (named_number 32 (codes "sweepers") rows)

-- the options among what `clap` found, if it found no fault
abbrev pub options_unless : Kinds → List Row → Option Options
options_unless [] rows = options_in rows
options_unless (fault ∷ faults) rows = None

-- the options that the words give: none where `clap` finds a fault in them, or where mode and seed do not go together
abbrev pub options_of : List Text → Option Options
options_of words = options_unless (fault_of command_line words) (matches_of command_line words)

-- each number is in the range of its option
pub record AreWithin (options : Options) : Type 0 where
  pub some_buckets : 1 ≤ options.buckets
  pub most_buckets : options.buckets ≤ 1024
  pub some_long : 1 ≤ options.long
  pub most_long : options.long ≤ 1048576
  pub most_rounds : options.rounds ≤ 1000
  pub some_sweepers : 1 ≤ options.sweepers
  pub most_sweepers : options.sweepers ≤ 16
