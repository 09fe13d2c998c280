use Rattle.std.proofs.Common.{rules}
use Rattle.hg_queue.proofs.Lining.{opens}
use Rattle.hg_queue.proofs.queue.Queue.new_as.Goals as goal

pub another-other-requires-clause-rule : goal.another-other-requires-clause-rule
another-other-requires-clause-rule g c = opens _ _ g.A.Boarded.board (search rules)
