use Rattle.std.proofs.Common.{rules, ◌≡◌, ◌∙◌, sym, ap, subst, true, None, map, string_bytes}
use Rattle.std.specs.Prelude.{if◌then◌else◌}
use Rattle.std.specs.List.{list_any}
use Rattle.hg_words.specs.Live.{as_replay, is_live}
use Rattle.hg_words.specs.Options.{options_of}
use Rattle.hg_words.proofs.live.read_live_words.Goals as goal

pub returns-clause-usage : goal.returns-clause-usage
returns-clause-usage c e =
    let words = map string_bytes c.args.words.now in
    let any : list_any is_live words ≡ true = search rules in
    let all = ap (map string_bytes) c.deref.ensures.value ∙ c.in_ok-all_spoken.ensures in
    subst (λ b. (if b then options_of (map as_replay words) else None) ≡ None) (sym any)
    (subst (λ ws. options_of ws ≡ None) all (c.read_words.ensures.usage e))
