-- When the words ask for a conversation.
use Rattle.std.specs.Prelude.{List, codes, map, Bool, Option, None, if◌then◌else◌, bytes_eq}
use Rattle.std.specs.List.{list_any}
use Rattle.clap.specs.Words.{Text}
use Rattle.hg_words.specs.declared.options.Options.{Options}
use Rattle.hg_words.specs.Options.{options_of}

-- the word that asks for a conversation
abbrev pub is_live : Text → Bool
is_live word = bytes_eq word (codes "live")

-- a word, with `replay` in place of `live`
abbrev pub as_replay : Text → Text
as_replay word = if is_live word then codes "replay" else word

-- the options of a conversation: those of the replay that the words ask for with `replay` in place of `live`
abbrev pub live_options_of : List Text → Option Options
live_options_of words = if list_any is_live words then options_of (map as_replay words) else None
