use Rattle.std.proofs.Common.{rules, ◌≡◌, Ok}
use Rattle.clap.specs.Words.{app_of, with_rule}
use Rattle.hg_words.specs.Line.{bare_line, mode_rule, seed_rule}
use Rattle.hg_words.proofs.Lines.{added}
use Rattle.hg_words.proofs.line.placed.Goals as goal

pub returns : goal.returns
returns c =
    let bare : app_of c.no_binary_name-bare.result ≡ bare_line = search rules in
    added c.with_argument-line.result c.with_argument.result c.seed_argument.result (with_rule bare_line mode_rule) seed_rule c.with_argument.ensures c.seed_argument.ensures.rule
    (added (Ok c.no_binary_name-bare.result) c.with_argument-line.result c.mode_argument.result bare_line mode_rule c.with_argument-line.ensures c.mode_argument.ensures.rule bare)
