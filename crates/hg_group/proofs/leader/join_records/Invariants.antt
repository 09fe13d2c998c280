use Rattle.std.specs.Prelude.{take}
use Rattle.hg_group.specs.Batch.{all_records}
use Rattle.hg_group.proofs.Listing.{Joined}
use Rattle.hg_group.proofs.leader.join_records.Given as goal

-- the records of this transaction so far
abbrev pub invariant-loop-rid : goal.invariant-loop-rid
invariant-loop-rid l = Joined l.initial.records (take l.rid-index l.rid-items) l.records

-- those of the transactions before this one
abbrev pub invariant-loop-tx : goal.invariant-loop-tx
invariant-loop-tx l = Joined l.initial.records (all_records (take l.tx-index l.tx-items)) l.records
