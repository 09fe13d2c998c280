use Rattle.std.proofs.Common.{arith}
use Rattle.hg_run.proofs.Counted.{live_counted, made_live, undone_live}
use Rattle.hg_run.proofs.count.count_live.Goals as goal

pub count_so_far-requires-clause-some : goal.count_so_far-requires-clause-some
count_so_far-requires-clause-some g c = let within = c.requires.live.2.ready.within in omega (arith, within)

pub count_so_far-requires-clause-many : goal.count_so_far-requires-clause-many
count_so_far-requires-clause-many g c = c.requires.live.2.ready.many

pub count_so_far-requires-clause-own : goal.count_so_far-requires-clause-own
count_so_far-requires-clause-own g c d k within = (c.requires.live.2.ready.placed d k within).own

pub count_so_far-requires-clause-numbers : goal.count_so_far-requires-clause-numbers
count_so_far-requires-clause-numbers g c d k within = (c.requires.live.2.ready.placed d k within).number_is

pub returns-clause-live : goal.returns-clause-live
returns-clause-live g c records lines live =
    live_counted c.args.engine.now c.args.crew.now.sessions.items c.count_so_far.new.list.items c.count_so_far.ensures.many c.count_so_far.ensures.same c.args._last records lines live

pub returns-clause-made : goal.returns-clause-made
returns-clause-made g c script lines live =
    made_live c.args.engine.now c.args.crew.now.sessions.items c.args._last script lines c.count_so_far.result c.count_so_far.ensures.counted live

pub returns-clause-undone : goal.returns-clause-undone
returns-clause-undone g c script lines live =
    undone_live c.args.engine.now c.args.crew.now.sessions.items c.args._last script lines c.count_so_far.result c.count_so_far.ensures.counted live

pub returns-clause-balance : goal.returns-clause-balance
returns-clause-balance g c = c.count_so_far.ensures.counted.counted.balance
