use Rattle.std.proofs.Common.{refl, rules}
use Rattle.hg_rule.specs.Seats.{session_view, IsSessionOf}
use Rattle.hg_session.specs.Engines.{engine_sizes, engine_board_id}
use Rattle.hg_session.proofs.Meetings.{met}
use Rattle.hg_session.proofs.session.Session.meet.Goals as goal

pub returns-clause-own : goal.returns-clause-own
returns-clause-own c =
    let own : IsSessionOf (engine_board_id c.args.engine.now) (engine_sizes c.args.engine.now) c.meet.new.self = search rules in
    let other : IsSessionOf (engine_board_id c.args.engine.now) (engine_sizes c.args.engine.now) c.meet.new.other = search rules in (
      met c.args.engine.now c.args.self.now _ (session_view c.args.other.now.pass) c.requires.own.0 own c.meet.ensures.view refl refl refl refl,
      met c.args.engine.now c.args.other.now _ (session_view c.meet.new.self) c.requires.own.1 other c.meet.ensures.other refl refl refl refl,
    )
