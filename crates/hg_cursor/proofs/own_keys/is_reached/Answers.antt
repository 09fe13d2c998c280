use Rattle.std.proofs.Common.{◌+◌, ap, ◌∙◌}
use Rattle.std.specs.Prelude.{nat_le}
use Rattle.hg_cursor.proofs.ScanningKeys.{reached_ahead, own_within}
use Rattle.hg_cursor.proofs.own_keys.is_reached.Goals as goal

pub ahead-requires-clause-home : goal.ahead-requires-clause-home
ahead-requires-clause-home c = own_within c.args.count c.args.bucket c.args.home c.args.range.table c.args.range.low c.requires.bucket c.requires.home

pub returns : goal.returns
returns c =
    let home = own_within c.args.count c.args.bucket c.args.home c.args.range.table c.args.range.low c.requires.bucket c.requires.home in
    c.reaches.ensures ∙ ap (λ x. nat_le (c.args.range.low + x) c.args.range.high) c.from.ensures ∙
    reached_ahead c.args.count c.args.bucket c.args.home c.args.range.table c.args.range.low c.args.range.high c.ahead.result c.requires.home home c.ahead.ensures.within c.ahead.ensures.round
