use Rattle.std.proofs.Common.{◌≡◌, length}
use Rattle.hg_run.proofs.Caught.{IsCatchingUp}
use Rattle.hg_run.proofs.turn.catch_up.Given as goal

abbrev pub invariant-loop-i : goal.invariant-loop-i
invariant-loop-i l = IsCatchingUp l.engine l.last l.seer l.i l.initial.list.items l.list.items × (l.i-end ≡ length l.initial.list.items)
