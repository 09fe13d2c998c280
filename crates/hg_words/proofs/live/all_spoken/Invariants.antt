use Rattle.std.specs.Prelude.{◌≡◌, map, string_bytes, take}
use Rattle.hg_words.specs.Live.{as_replay}
use Rattle.hg_words.proofs.live.all_spoken.Given as goal

abbrev pub invariant-loop-word : goal.invariant-loop-word
invariant-loop-word l = map string_bytes l.all.items ≡ map as_replay (map string_bytes (take l.word-index l.words))
