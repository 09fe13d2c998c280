use Rattle.std.proofs.Common.{◌<◌, length, take, List, []}
use Rattle.hg_base.specs.Lists.{Ascends, Each, onto}
use Rattle.hg_base.specs.Transcript.{Said}
use Rattle.hg_base.specs.Freshness.{IsHeld}
use Rattle.hg_known.specs.Marked.{ArePoints}
use Rattle.hg_audit.proofs.Holding.{sessions, IsLeast}
use Rattle.hg_audit.proofs.freshness.are_held.Given as goal

abbrev pub invariant-loop-k : goal.invariant-loop-k
invariant-loop-k l = record {
  least : IsLeast l.least (take l.k l.held);
  ascend : Ascends (sessions (take l.k l.held));
  each : (all : List Said) → (0 < length l.held → ArePoints l.points (onto all [])) → Each (IsHeld all) (take l.k l.held);
}
