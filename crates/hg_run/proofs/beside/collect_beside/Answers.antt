use Rattle.std.proofs.Common.{subst}
use Rattle.hg_rule.specs.declared.board.Board.{Board}
use Rattle.hg_rule.specs.Seats.{board_id, sizes_of}
use Rattle.hg_collectors.specs.Collecting.{AreCollectorsOf, HaveMadeAll}
use Rattle.hg_run.proofs.beside.collect_beside.Goals as goal

pub returns-clause-made : goal.returns-clause-made
returns-clause-made g c = subst (λ (b : Board). HaveMadeAll (sizes_of b) c.args.plan.now.long c.args.plan.now.rounds c.args.collectors.now c.run_collectors.new.told
    c.run_collectors.new.collectors) c.lent_by.ensures c.run_collectors.ensures.made

pub returns-clause-own : goal.returns-clause-own
returns-clause-own g c = subst (λ (b : Board). AreCollectorsOf (board_id b) (sizes_of b) c.run_collectors.new.collectors) c.lent_by.ensures c.run_collectors.ensures.own
