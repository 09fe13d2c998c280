use Rattle.std.proofs.Common.{◌≡◌, ◌∙◌, ap, min, length, take, rules}
use Rattle.std.proofs.lemmas.List.{take_min}
use Rattle.hg_base.specs.declared.limits.TheConstants.{MOST_TEXT_BYTES}
use Rattle.hg_report.proofs.values.front.Goals as goal

pub returns : goal.returns
returns c =
    let bytes = c.args.bytes.now in
    let least : c.min.result ≡ min MOST_TEXT_BYTES (length bytes) = search rules in
    c.in-Some.ensures.some.0 ∙ ap (λ n. take n bytes) least ∙ take_min MOST_TEXT_BYTES bytes
