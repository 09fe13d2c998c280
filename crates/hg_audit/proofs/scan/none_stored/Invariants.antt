use Rattle.std.proofs.Common.{◌≤◌, ◌+◌, ◌-◌}
use Rattle.hg_audit.specs.Seen.{own_look}
use Rattle.hg_audit.proofs.Looking.{Passed}
use Rattle.hg_audit.proofs.scan.none_stored.Given as goal

abbrev pub invariant-loop-key : goal.invariant-loop-key
invariant-loop-key l = record {
  first : l.initial.from ≤ l.from;
  passed : Passed (own_look l.own l.tx.session l.tx.number l.table) l.initial.from l.from;
}

abbrev pub decreases-loop-key : goal.decreases-loop-key
decreases-loop-key l = l.to + 1 - l.from
