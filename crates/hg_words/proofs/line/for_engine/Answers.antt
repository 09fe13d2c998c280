use Rattle.clap.specs.Words.{with_rule}
use Rattle.hg_words.specs.Line.{placed_line, buckets_rule, long_rule}
use Rattle.hg_words.proofs.Lines.{added}
use Rattle.hg_words.proofs.line.for_engine.Goals as goal

pub returns : goal.returns
returns c = added c.with_argument-line.result c.with_argument.result c.number_argument-long.result
    (with_rule placed_line buckets_rule) long_rule c.with_argument.ensures c.number_argument-long.ensures.rule
    (added c.placed.result c.with_argument-line.result c.number_argument-buckets.result placed_line buckets_rule
    c.with_argument-line.ensures c.number_argument-buckets.ensures.rule c.placed.ensures)
