use Rattle.std.proofs.Common.{◌≡◌, length}
use Rattle.hg_run.proofs.Closes.{ArePartlyClosed}
use Rattle.hg_run.proofs.end.close_all.Given as goal

abbrev pub invariant-loop-i : goal.invariant-loop-i
invariant-loop-i g l = ArePartlyClosed l.engine l.initial.list.items l.list.items l.i × (l.i-end ≡ length l.initial.list.items)
