use Rattle.hg_bucket.specs.BucketModel.{keys_in}
use Rattle.hg_bucket.proofs.Walking.{Cut}
use Rattle.hg_bucket.proofs.Rounds.{Rounds, Leads}
use Rattle.hg_bucket.proofs.records.Records.cut_table.Given as goal

abbrev pub invariant-loop-left : goal.invariant-loop-left
invariant-loop-left l = Rounds (Cut l.bound) l.table (keys_in l.fn.self.long l.table) l.fn.self.records l.self.records l.left l.gone ×
    Leads l.left (keys_in l.self.long l.table) (keys_in l.fn.self.long l.table)

abbrev pub decreases-loop-left : goal.decreases-loop-left
decreases-loop-left l = l.left
