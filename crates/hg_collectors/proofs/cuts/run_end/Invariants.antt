use Rattle.std.specs.Prelude.{◌-◌, ◌<◌, ◌≤◌, length}
use Rattle.std.specs.List.{between}
use Rattle.hg_store.specs.Stores.{store_buckets}
use Rattle.hg_collectors.specs.Cutting.{AreIn}
use Rattle.hg_collectors.proofs.cuts.run_end.Given as goal

-- the records so far are in the bucket
abbrev pub invariant-loop-next : goal.invariant-loop-next
invariant-loop-next l = (l.from < l.next) × (l.next ≤ length l.rids) × AreIn (store_buckets l.store) l.bucket (between l.from l.next l.rids)

-- the records that are left
abbrev pub decreases-loop-next : goal.decreases-loop-next
decreases-loop-next l = length l.rids - l.next
