use Rattle.std.proofs.Common.{arith}
use Rattle.hg_session.specs.Engines.{engine_sizes}
use Rattle.hg_run.proofs.CleanAfter.{leaves_few}
use Rattle.hg_run.proofs.LookedAt.{logs_kept, made_met, ready_kept, removed_met, replied_kept}
use Rattle.hg_run.proofs.moment.sweep_known.Goals as goal

pub returns-clause-replied : goal.returns-clause-replied
returns-clause-replied g c seen reads rest saw have =
    let k = c.look.ensures in
    let mid = c.sweep.new.crew.sessions.items in
    let ready = c.in_ok-reply.ensures.ready _ c.requires.ready in
    replied_kept c.args.engine.now mid c.look.new.list.items k.many k.same seen reads rest c.args.crew.now.sessions.items c.args.i _ c.in_ok-reply.reply ready.within
    (c.in_ok-reply.ensures.replied seen reads rest saw have)

pub returns-clause-ready : goal.returns-clause-ready
returns-clause-ready g c left r =
    let k = c.look.ensures in
    ready_kept c.args.engine.now c.sweep.new.crew.sessions.items c.look.new.list.items k.many k.same c.args.i left (c.in_ok-reply.ensures.ready left r)

pub returns-clause-told : goal.returns-clause-told
returns-clause-told g c =
    let k = c.look.ensures in
    let mid = c.sweep.new.crew.collectors in
    let told = c.in_ok-reply.ensures.told in
    record {
      removed = λ kind. (let first = told.removed kind in let same = removed_met mid c.look.new.collectors k.pass kind in omega (arith, first, same));
      rounds = made_met (engine_sizes c.args.engine.now) c.args.long c.args.crew.now.collectors mid c.look.new.collectors _ told.rounds k.pass;
    }

pub returns-clause-kept : goal.returns-clause-kept
returns-clause-kept g c kind =
    let first = c.sweep.ensures.kept kind in
    let same = removed_met c.sweep.new.crew.collectors c.look.new.collectors c.look.ensures.pass kind in
    omega (arith, first, same)

pub returns-clause-few : goal.returns-clause-few
returns-clause-few g c =
    let k = c.look.ensures in
    let e = c.args.engine.now in
    let mid = c.sweep.new.crew.sessions.items in
    let ready = c.in_ok-reply.ensures.ready _ c.requires.ready in
    leaves_few e c.args.long c.args.crew.now.collectors c.sweep.new.crew.collectors c.look.new.collectors c.args.crew.now.sessions.items mid c.look.new.list.items c.args.i c.args.kind
    c.in_ok-reply.reply k.moment c.in_ok-reply.ensures.replied c.in_ok-reply.ensures.told.rounds c.requires.some (logs_kept e mid c.look.new.list.items k.many k.same c.args.i ready.within) k.pass
