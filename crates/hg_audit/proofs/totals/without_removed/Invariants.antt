use Rattle.std.proofs.Common.{◌≡◌, ◌+◌, take}
use Rattle.std.specs.Prelude.{sum_by}
use Rattle.hg_base.specs.Counts.{removed_by}
use Rattle.hg_audit.proofs.totals.without_removed.Given as goal

abbrev pub invariant-loop-k : goal.invariant-loop-k
invariant-loop-k l = l.rest + sum_by (removed_by l.kind) (take l.k l.all) ≡ l.told
