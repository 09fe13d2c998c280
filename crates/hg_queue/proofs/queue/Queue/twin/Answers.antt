use Rattle.hg_queue.proofs.Lining.{twins}
use Rattle.hg_queue.proofs.queue.Queue.twin.Goals as goal

pub another-twin-requires-clause-rule : goal.another-twin-requires-clause-rule
another-twin-requires-clause-rule c = twins _ _ c.requires.pushes.0 c.requires.pushes.1
