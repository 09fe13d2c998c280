use Rattle.std.specs.Prelude.{IfSome}
use Rattle.hg_known.proofs.Joining.{Joining, IsSmall, left_over}
use Rattle.hg_known.proofs.history.add_writes.Given as goal

abbrev pub invariant-loop-found : goal.invariant-loop-found
invariant-loop-found l = record {
  joining : Joining l.own l.tx.session l.tx.number l.number l.initial.writes l.writes l.found;
  small : IfSome l.found IsSmall;
}

abbrev pub decreases-loop-found : goal.decreases-loop-found
decreases-loop-found l = left_over l.found
