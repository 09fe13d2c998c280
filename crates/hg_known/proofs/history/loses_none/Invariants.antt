use Rattle.std.proofs.Common.{ℕ, ◌<◌, ◌≡◌, None}
use Rattle.std.specs.Prelude.{IfSome}
use Rattle.hg_known.specs.Written.{image_at}
use Rattle.hg_known.proofs.Joining.{IsSmall, left_over}
use Rattle.hg_known.proofs.Losing.{Going}
use Rattle.hg_known.proofs.history.loses_none.Given as goal

abbrev pub invariant-loop-found : goal.invariant-loop-found
invariant-loop-found l = record {
  going : Going l.own l.tx.session l.tx.number (λ r. (m : ℕ) → l.at < m → m < l.number → image_at l.writes r m ≡ None) l.found;
  small : IfSome l.found IsSmall;
}

abbrev pub decreases-loop-found : goal.decreases-loop-found
decreases-loop-found l = left_over l.found
