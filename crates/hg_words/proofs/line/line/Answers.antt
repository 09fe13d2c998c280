use Rattle.clap.specs.Words.{with_rule}
use Rattle.hg_words.specs.Line.{engine_line, rounds_rule, sweepers_rule}
use Rattle.hg_words.proofs.Lines.{added}
use Rattle.hg_words.proofs.line.line.Goals as goal

pub returns : goal.returns
returns c = added c.with_argument-line.result c.with_argument.result c.number_argument-sweepers.result
    (with_rule engine_line rounds_rule) sweepers_rule c.with_argument.ensures c.number_argument-sweepers.ensures.rule
    (added c.for_engine.result c.with_argument-line.result c.number_argument-rounds.result engine_line rounds_rule
    c.with_argument-line.ensures c.number_argument-rounds.ensures.rule c.for_engine.ensures)
