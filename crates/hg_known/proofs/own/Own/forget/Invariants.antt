use Rattle.std.proofs.Common.{◌≡◌, ℕ}
use Rattle.std.specs.Prelude.{◌&&◌, ◌==◌, IsFalse, IfSome}
use Rattle.hg_base.specs.declared.rid.Rid.{Rid}
use Rattle.hg_known.specs.Owned.{own_at}
use Rattle.hg_known.proofs.Joining.{IsSmall, left_over}
use Rattle.hg_known.proofs.Losing.{Left}
use Rattle.hg_known.proofs.own.Own.forget.Given as goal

abbrev pub invariant-loop-found : goal.invariant-loop-found
invariant-loop-found l = record {
  kept : (j x : ℕ) (r : Rid) → IsFalse ((l.tx.session == j) && (l.tx.number == x)) → own_at l.self j x r ≡ own_at l.fn.self j x r;
  left : Left l.self l.tx.session l.tx.number l.found;
  small : IfSome l.found IsSmall;
}

abbrev pub decreases-loop-found : goal.decreases-loop-found
decreases-loop-found l = left_over l.found
