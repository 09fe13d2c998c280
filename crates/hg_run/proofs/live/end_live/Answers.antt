use Rattle.std.proofs.Common.{◌∙◌}
use Rattle.std.specs.Prelude.{get_or}
use Rattle.hg_session.specs.Sessions.{seen_by}
use Rattle.hg_run.proofs.Hearing.{seen_kept}
use Rattle.hg_run.proofs.Counted.{live_final}
use Rattle.hg_run.proofs.Stopping.{stopped_exact}
use Rattle.hg_run.proofs.live.end_live.Goals as goal

pub catch_up-requires : goal.catch_up-requires
catch_up-requires g c = record { ready = c.requires.stopped.2.ready }

pub close_all-requires : goal.close_all-requires
close_all-requires g c = c.catch_up.ensures.ready.placed

pub close-requires-clause-many : goal.close-requires-clause-many
close-requires-clause-many g c = c.close_all.ensures.many ∙ c.catch_up.ensures.ready.many

pub returns-clause-exact : goal.returns-clause-exact
returns-clause-exact g c script lines stopped answered =
    let caught = c.catch_up.new.list.items in
    let closed = c.close_all.new.list.items in
    stopped_exact c.args.engine.now c.args.crew.sessions.items caught closed c.args.last c.catch_up.result c.close.ensures.history script lines stopped c.catch_up.ensures.logs
    c.catch_up.ensures.caught c.catch_up.ensures.saw c.catch_up.ensures.ready.within c.close_all.ensures.closes c.close_all.ensures.many
    (λ seen saw d. seen_kept seen (seen_by (get_or caught c.catch_up.result d)) (seen_by (get_or closed c.catch_up.result d))
    (c.close_all.ensures.kept d c.catch_up.result c.catch_up.ensures.ready.within) (saw d)) c.close.ensures.logged c.close.ensures.saw answered

pub returns-clause-balance : goal.returns-clause-balance
returns-clause-balance g c = c.close.ensures.counted.balance

pub returns-clause-counted : goal.returns-clause-counted
returns-clause-counted g c script lines live told =
    let caught = c.catch_up.new.list.items in
    let closed = c.close_all.new.list.items in
    live_final c.args.engine.now c.args.crew.sessions.items caught closed c.args.last c.catch_up.result c.close.ensures.history script lines c.args.crew.collectors c.close.result live
    c.catch_up.ensures.logs c.catch_up.ensures.saw c.catch_up.ensures.ready.within c.close_all.ensures.closes c.close_all.ensures.many
    (λ seen saw d. seen_kept seen (seen_by (get_or caught c.catch_up.result d)) (seen_by (get_or closed c.catch_up.result d))
    (c.close_all.ensures.kept d c.catch_up.result c.catch_up.ensures.ready.within) (saw d)) c.close.ensures.logged c.close.ensures.saw c.close.ensures.counted told
