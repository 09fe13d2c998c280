use Rattle.std.proofs.Common.{◌≤◌}
use Rattle.hg_base.specs.History.{History}
use Rattle.hg_known.specs.Written.{IsOfHistory}
use Rattle.hg_audit.specs.Seen.{other_look}
use Rattle.hg_audit.proofs.Looking.{PassedDown}
use Rattle.hg_audit.proofs.scan.none_shown.Given as goal

abbrev pub invariant-loop-key : goal.invariant-loop-key
invariant-loop-key l = record {
  last : l.to ≤ l.initial.to;
  passed : (h : History) → IsOfHistory h l.writes → PassedDown (other_look h l.own l.now.session l.now.transaction l.now.at l.table) l.to l.initial.to;
}

abbrev pub decreases-loop-key : goal.decreases-loop-key
decreases-loop-key l = l.to
