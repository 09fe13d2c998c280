-- The one command of the program, in `clap`'s terms.
use Rattle.std.specs.Prelude.{ℕ, true, [], ◌∷◌, codes, Some}
use Rattle.clap.specs.Words.{App, Rule, Text, new_app, new_rule, with_rule}
use Rattle.clap.specs.declared.builder.value_parser.ValueParser.TheVariants as parser

-- the first positional, which has to be there
abbrev pub mode_rule : Rule
mode_rule = record (new_rule (codes "mode")) { required = true }

-- the second positional, any number of 64 bits
abbrev pub seed_rule : Rule
seed_rule = record (new_rule (codes "seed")) { parser = Some (parser.Unsigned 0 18446744073709551615) }

-- an option of this name that takes a number from low to high, and has this value where it is not given
abbrev pub number_rule : Text → ℕ → ℕ → Text → Rule
number_rule name low high value =
    record (new_rule name) { long = Some name; parser = Some (parser.Unsigned low high); defaults = value ∷ [] }

-- `--buckets`: 1 to 1,024, and 64 where it is not given
abbrev pub buckets_rule : Rule
buckets_rule = number_rule (codes "buckets") 1 1024 (codes "64")

-- `--long`: 1 to 1,048,576, and 4 where it is not given
abbrev pub long_rule : Rule
long_rule = number_rule (codes "long") 1 1048576 (codes "4")

-- `--rounds`: 0 to 1,000, and 8 where it is not given
abbrev pub rounds_rule : Rule
rounds_rule = number_rule (codes "rounds") 0 1000 (codes "8")

-- `--sweepers`: 1 to 16, and 1 where it is not given
abbrev pub sweepers_rule : Rule
sweepers_rule = number_rule (codes "sweepers") 1 16 (codes "1")

-- the command without an argument, which reads words without the program's name
abbrev pub bare_line : App
bare_line = let a = new_app (codes "hybridgc") in record a { top = record a.top { no_binary_name = true } }

-- the command with the two positionals
abbrev pub placed_line : App
placed_line = with_rule (with_rule bare_line mode_rule) seed_rule

-- the command with the positionals and the options that an engine is opened with
abbrev pub engine_line : App
engine_line = with_rule (with_rule placed_line buckets_rule) long_rule

-- the whole command of the program
abbrev pub command_line : App
command_line = with_rule (with_rule engine_line rounds_rule) sweepers_rule
