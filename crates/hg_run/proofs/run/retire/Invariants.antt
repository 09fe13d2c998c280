use Rattle.std.proofs.Common.{◌≡◌, ◌+◌, ◌≤◌, ◌++◌, length}
use Rattle.std.specs.Prelude.{vec_capacity}
use Rattle.hg_run.specs.Working.{sessions_in}
use Rattle.hg_run.proofs.run.retire.Given as goal

abbrev pub invariant-loop-worker : goal.invariant-loop-worker
invariant-loop-worker l = (l.fn.workers.items ≡ l.yielded ++ l.worker-iterator.rest.items) × (l.sessions.items ≡ l.fn.sessions.items ++ sessions_in l.yielded) ×
    (length l.sessions.items ≡ length l.fn.sessions.items + length l.yielded) × (length l.fn.sessions.items + length l.fn.workers.items ≤ vec_capacity l.sessions)
