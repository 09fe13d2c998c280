use Rattle.hg_queue.proofs.queue.Queue.is_empty.Goals as goal

pub len_as-requires-clause-rule : goal.len_as-requires-clause-rule
len_as-requires-clause-rule g c = λ items views h at. tt
