use Rattle.std.proofs.Common.{◌+◌, ◌≤◌, length, take, ◌≡◌}
use Rattle.hg_bucket.specs.BucketModel.{keys_in}
use Rattle.hg_bucket.specs.Sweeping.{sweep_steps}
use Rattle.hg_bucket.proofs.Walking.{Swept}
use Rattle.hg_bucket.proofs.Rounds.{Rounds}
use Rattle.hg_bucket.proofs.Paying.{keys_cost}
use Rattle.hg_bucket.proofs.records.Records.sweep_table.Given as goal

abbrev pub invariant-loop-left : goal.invariant-loop-left
invariant-loop-left g l =
    let keys = keys_in l.fn.self.long l.table in
    Rounds (Swept l.horizon l.snapshots) l.table keys l.fn.self.records l.self.records l.left l.gone
    × (l.self.long ≡ l.fn.self.long)
    × (l.left ≤ length keys)
    × (l.steps + keys_cost l.table (length l.snapshots) l.fn.self.records (take l.left keys) ≤ l.fn.steps + sweep_steps l.table l.snapshots l.fn.self.records)

abbrev pub decreases-loop-left : goal.decreases-loop-left
decreases-loop-left g l = l.left
