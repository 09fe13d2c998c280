use Rattle.std.proofs.Common.{◌∙◌}
use Rattle.hg_group.proofs.Listing.{none_joined, one_joined, tx_joined, has_place, room_beside, all_joined}
use Rattle.hg_group.proofs.leader.join_records.Goals as goal

pub loop-tx-init : goal.loop-tx-init
loop-tx-init c = none_joined c.remove-records.result.records

pub loop-rid-init : goal.loop-rid-init
loop-rid-init c = none_joined c.loop-tx.records

pub push_reserved-requires : goal.push_reserved-requires
push_reserved-requires c = record {
  room = has_place c.remove-records.result.records c.loop-tx.records c.loop-rid.records c.as_slice-tx-items.result.now c.loop-tx.tx-index
      c.loop-rid.rid-index c.tx-item.result c.as_slice-rid-items.result.now
      (room_beside c.args.popped.now.items c.as_slice-tx-items.result.now c.remove-records.result c.remove-records.ensures.value c.requires.some (c.as_slice-tx-items.ensures.value ∙
      c.remove-records.ensures.items) c.requires.room) c.loop-tx.invariant c.loop-rid.invariant c.as_slice-rid-items.ensures c.loop-rid-test.true c.tx-item.is c.loop-tx-test.true;
}

pub loop-rid-preserved : goal.loop-rid-preserved
loop-rid-preserved c = one_joined c.loop-tx.records c.loop-rid.records c.push_reserved.new.self c.as_slice-rid-items.result.now c.loop-rid.rid-index _ c.loop-rid.invariant
    c.loop-rid-test.true c.push_reserved.ensures.pushed c.push_reserved.ensures.less

pub loop-tx-preserved : goal.loop-tx-preserved
loop-tx-preserved c = tx_joined c.remove-records.result.records c.loop-tx.records c.loop-rid.records c.as_slice-tx-items.result.now c.loop-tx.tx-index c.loop-rid.rid-index
    c.tx-item.result c.as_slice-rid-items.result.now c.loop-tx.invariant c.loop-rid.invariant c.as_slice-rid-items.ensures c.loop-rid.auto.rid-index-end c.loop-rid-test.false
    c.tx-item.is c.loop-tx-test.true

pub returns-clause-records : goal.returns-clause-records
returns-clause-records c = all_joined c.args.popped.now.items c.as_slice-tx-items.result.now c.remove-records.result c.loop-tx.tx-index c.loop-tx.records
    c.remove-records.ensures.value c.requires.some (c.as_slice-tx-items.ensures.value ∙ c.remove-records.ensures.items) c.loop-tx.auto.tx-index-end c.loop-tx-test.false c.loop-tx.invariant
