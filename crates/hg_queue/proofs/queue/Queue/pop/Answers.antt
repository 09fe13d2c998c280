use Rattle.hg_queue.proofs.Lining.{may_pop}
use Rattle.hg_queue.proofs.queue.Queue.pop.Goals as goal

pub pop_as-requires-clause-rule : goal.pop_as-requires-clause-rule
pop_as-requires-clause-rule g c = (may_pop _ _ c.requires.pops.0 c.requires.pops.1, λ items views h at. tt)
