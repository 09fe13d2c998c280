use Rattle.std.proofs.Common.{◌≡◌, ◌≤◌, ◌++◌, length}
use Rattle.std.specs.Prelude.{vec_capacity}
use Rattle.hg_run.specs.Working.{hired}
use Rattle.hg_run.proofs.run.hire.Given as goal

abbrev pub invariant-loop-session : goal.invariant-loop-session
invariant-loop-session l = (l.fn.list.items ≡ l.yielded ++ l.session-iterator.rest.items) × (l.workers.items ≡ hired l.script 1 l.yielded) × (l.number ≡ length l.yielded) ×
    (length l.fn.list.items ≤ vec_capacity l.workers) × (length l.workers.items ≡ length l.yielded)
