use Rattle.std.proofs.Common.{◌≡◌, ◌+◌, length}
use Rattle.std.specs.Prelude.{IfSome}
use Rattle.hg_base.specs.History.{History}
use Rattle.hg_known.specs.Written.{IsOfHistory}
use Rattle.hg_known.proofs.Joining.{IsSmall, left_over}
use Rattle.hg_audit.proofs.Living.{IsWritten, met}
use Rattle.hg_audit.proofs.totals.are_left.Given as goal

abbrev pub invariant-loop-found : goal.invariant-loop-found
invariant-loop-found l = record {
  met : (h : History) → IsOfHistory h l.writes → length h ≡ l.groups → l.rest + met h l.found ≡ l.told;
  here : IfSome l.found (IsWritten l.writes);
  small : IfSome l.found IsSmall;
}

abbrev pub decreases-loop-found : goal.decreases-loop-found
decreases-loop-found l = left_over l.found
