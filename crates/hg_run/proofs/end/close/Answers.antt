use Rattle.hg_rounds.specs.TableCollectors.{view_of}
use Rattle.hg_run.proofs.Brought.{there_ended, there_heard}
use Rattle.hg_run.proofs.end.close.Goals as goal

pub count-requires-clause-ended : goal.count-requires-clause-ended
count-requires-clause-ended g c = there_ended c.args.engine.now c.args.list.items c.args.collectors (view_of c.bring-collector.result)
    (record { brought = c.bring-collector.ensures.brought; closed = c.requires.closed; many = c.requires.many })

pub count-requires-clause-heard : goal.count-requires-clause-heard
count-requires-clause-heard g c = there_heard c.args.engine.now c.args.list.items c.args.collectors (view_of c.bring-collector.result)
    (record { brought = c.bring-collector.ensures.brought; closed = c.requires.closed; many = c.requires.many })

pub returns : goal.returns
returns g c = c.count.ensures c.args.list.items c.args.collectors (record { brought = c.bring-collector.ensures.brought; closed = c.requires.closed; many = c.requires.many })
