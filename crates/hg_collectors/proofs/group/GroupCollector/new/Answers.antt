use Rattle.hg_collectors.proofs.group.GroupCollector.new.Goals as goal

pub returns-in-Ok-new-clause-collector : goal.returns-in-Ok-new-clause-collector
returns-in-Ok-new-clause-collector c = λ t z own sessions tables. (c.in-Ok-new.ensures.rounds t z own sessions tables, c.in-Ok.ensures.exact)
