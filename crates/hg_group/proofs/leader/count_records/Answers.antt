use Rattle.std.proofs.Common.{◌+◌, length, ap, ◌∙◌}
use Rattle.hg_group.proofs.Listing.{count_next, count_all}
use Rattle.hg_group.proofs.leader.count_records.Goals as goal

pub loop-tx-preserved : goal.loop-tx-preserved
loop-tx-preserved c = c.in_ok-count.ensures.1 ∙ (ap (λ n. c.loop-tx.count + n) c.len.ensures ∙
    count_next c.args.popped.now c.loop-tx.tx-index c.tx-item.result c.loop-tx.count c.loop-tx.invariant c.tx-item.is c.loop-tx-test.true)

pub returns : goal.returns
returns c = c.loop-tx.invariant ∙ ap length (count_all c.args.popped.now c.loop-tx.tx-index c.loop-tx.auto.tx-index-end c.loop-tx-test.false)
