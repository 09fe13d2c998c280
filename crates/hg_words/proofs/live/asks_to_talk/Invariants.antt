use Rattle.std.specs.Prelude.{◌≡◌, false, map, string_bytes, take}
use Rattle.std.specs.List.{list_any}
use Rattle.hg_words.specs.Live.{is_live}
use Rattle.hg_words.proofs.live.asks_to_talk.Given as goal

abbrev pub invariant-loop-word : goal.invariant-loop-word
invariant-loop-word l = list_any is_live (map string_bytes (take l.word-index l.words)) ≡ false
