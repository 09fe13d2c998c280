use Rattle.hg_queue.proofs.Lining.{may_push}
use Rattle.hg_queue.proofs.queue.Queue.push.Goals as goal

pub push_as-requires-clause-rule : goal.push_as-requires-clause-rule
push_as-requires-clause-rule g c n = may_push n _ _ c.args.handed c.requires.pushes.0 c.requires.pushes.1 c.requires.handed
