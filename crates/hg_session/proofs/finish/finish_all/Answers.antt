use Rattle.hg_rule.specs.Seats.{pass_view}
use Rattle.hg_session.proofs.Bringing.{logs_finished, ended_finished, visits_finished, passes_finished, journals_finished, heard_finished}
use Rattle.hg_session.proofs.finish.finish_all.Goals as goal

pub returns-clause-ended : goal.returns-clause-ended
returns-clause-ended c = ended_finished c.args.engine.now (pass_view c.args.pass.now) (pass_view c.finish_some.new.pass) c.args.sessions.items c.requires.own.1 c.requires.sessions
    c.requires.joined.1 c.finish_some.ensures.went c.requires.all c.requires.joined.0

pub returns-clause-logs : goal.returns-clause-logs
returns-clause-logs c = logs_finished c.args.engine.now (pass_view c.args.pass.now) (pass_view c.finish_some.new.pass) c.args.sessions.items c.requires.own.1 c.requires.sessions
    c.requires.joined.1 c.finish_some.ensures.went

pub returns-clause-heard : goal.returns-clause-heard
returns-clause-heard c = heard_finished c.args.engine.now (pass_view c.args.pass.now) (pass_view c.finish_some.new.pass) c.args.sessions.items c.requires.own.1 c.requires.sessions
    c.requires.joined.1 c.finish_some.ensures.went

pub returns-clause-kept : goal.returns-clause-kept
returns-clause-kept c =
    let went = c.finish_some.ensures.went in (
      went.kept,
      went.events,
      visits_finished c.args.engine.now (pass_view c.args.pass.now) (pass_view c.finish_some.new.pass) c.args.sessions.items c.requires.own.1 c.requires.sessions c.requires.joined.1 went,
      passes_finished c.args.engine.now (pass_view c.args.pass.now) (pass_view c.finish_some.new.pass) c.args.sessions.items c.requires.own.1 c.requires.sessions c.requires.joined.1 went,
      journals_finished c.args.engine.now (pass_view c.args.pass.now) (pass_view c.finish_some.new.pass) c.args.sessions.items c.requires.own.1 c.requires.sessions c.requires.joined.1 went,
    )
