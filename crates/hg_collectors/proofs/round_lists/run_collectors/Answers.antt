use Rattle.hg_collectors.specs.Lent.{lent_board_id, lent_sizes}
use Rattle.hg_collectors.proofs.Among.{by_kind}
use Rattle.hg_collectors.proofs.Concurrent.{collectors_made}
use Rattle.hg_collectors.proofs.round_lists.run_collectors.Goals as goal

pub returns-clause-made : goal.returns-clause-made
returns-clause-made g c = by_kind _ c.join_mut.ensures.0.met.1.0 c.join_mut.ensures.1.met.1.0.0 c.join_mut.ensures.1.met.1.1.0

pub returns-clause-own : goal.returns-clause-own
returns-clause-own g c =
    collectors_made (lent_board_id c.args.lent.now) (lent_sizes c.args.lent.now) c.args.plan.now.long c.args.plan.now.rounds c.args.collectors.now _ _ c.requires.own
    c.join_mut.ensures.0.met.1.1 c.join_mut.ensures.1.met.1.0.1 c.join_mut.ensures.1.met.1.1.1 (returns-clause-made g c)
