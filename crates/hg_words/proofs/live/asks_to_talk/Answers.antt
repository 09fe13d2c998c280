use Rattle.std.proofs.Common.{◌≡◌, ◌<◌, sym, ap, ◌∙◌, map, string_bytes, arith, length, true}
use Rattle.std.specs.Prelude.{get_or}
use Rattle.std.proofs.lemmas.List.{length-map, get_or-map}
use Rattle.std.proofs.lemmas.List.Folds.{list_any_at}
use Rattle.hg_words.specs.Live.{is_live}
use Rattle.hg_words.proofs.live.asks_to_talk.Goals as goal

pub returns-then-eq : goal.returns-then-eq
returns-then-eq c =
    let words = c.args.words.now in
    let i = c.loop-word.word-index in
    let word = c.word-item.result in
    let within : i < length words = c.loop-word-test.true in
    let here : is_live (get_or (map string_bytes words) i (string_bytes word)) ≡ true =
    ap is_live (get_or-map string_bytes words i word (string_bytes word) within ∙ ap string_bytes (sym c.word-item.is) ∙ sym c.as_str.ensures.value)
    ∙ sym c.eq.ensures ∙ c.if-eq.true in
    sym (list_any_at is_live (map string_bytes words) i (string_bytes word) (let same = length-map words string_bytes in omega (arith, within, same)) here)
