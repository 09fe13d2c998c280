use Rattle.std.specs.Prelude.{◌≡◌, length, take}
use Rattle.hg_group.specs.Batch.{all_records}
use Rattle.hg_group.proofs.leader.count_records.Given as goal

abbrev pub invariant-loop-tx : goal.invariant-loop-tx
invariant-loop-tx l = l.count ≡ length (all_records (take l.tx-index l.popped))
