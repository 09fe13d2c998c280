use Rattle.std.proofs.Common.{◌+◌, sym, subst, arith}
use Rattle.hg_bucket.specs.BucketModel.{record_at}
use Rattle.hg_cursor.specs.Keys.{IsFirstOwn}
use Rattle.hg_cursor.proofs.ScanningKeys.{least_own, own_ahead, own_within, ahead_within}
use Rattle.hg_cursor.proofs.own_keys.first_key.Goals as goal

pub ahead-requires-clause-home : goal.ahead-requires-clause-home
ahead-requires-clause-home c = own_within c.args.count c.args.bucket c.args.home c.args.range.table c.args.range.low c.requires.bucket c.requires.home

pub overflow_add-result : goal.overflow_add-result
overflow_add-result c =
    let home = own_within c.args.count c.args.bucket c.args.home c.args.range.table c.args.range.low c.requires.bucket c.requires.home in
    let most = ahead_within c.args.count c.args.bucket c.args.home c.args.range.table c.args.range.low c.args.range.high c.ahead.result
    c.requires.home home c.ahead.ensures.within c.ahead.ensures.round c.requires.reached in
    let wide = c.from-ahead.ensures in
    omega (arith, most, wide)

pub returns : goal.returns
returns c =
    let home = own_within c.args.count c.args.bucket c.args.home c.args.range.table c.args.range.low c.requires.bucket c.requires.home in
    let most = ahead_within c.args.count c.args.bucket c.args.home c.args.range.table c.args.range.low c.args.range.high c.ahead.result
    c.requires.home home c.ahead.ensures.within c.ahead.ensures.round c.requires.reached in
    let own : IsFirstOwn c.args.count c.args.bucket c.args.range.table c.args.range.low c.args.range.high (c.args.range.low + c.ahead.result) = (
      (omega arith, most),
      own_ahead c.args.count c.args.bucket c.args.home c.args.range.table c.args.range.low c.ahead.result c.requires.home c.ahead.ensures.round,
      λ k le within is.
          least_own c.args.count c.args.bucket c.args.home (record_at c.args.range.table c.args.range.low) c.ahead.result k
          (sym c.requires.home) home c.ahead.ensures.within c.ahead.ensures.round le is,
    ) in
    subst (λ a. IsFirstOwn c.args.count c.args.bucket c.args.range.table c.args.range.low c.args.range.high (c.args.range.low + a)) (sym c.from-ahead.ensures) own
