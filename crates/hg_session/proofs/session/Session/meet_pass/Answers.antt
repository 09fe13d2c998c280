use Rattle.std.proofs.Common.{refl, rules}
use Rattle.hg_rule.specs.Seats.{pass_view, IsSessionOf, IsPassOf}
use Rattle.hg_session.specs.Engines.{engine_sizes, engine_board_id}
use Rattle.hg_session.proofs.Meetings.{met}
use Rattle.hg_session.proofs.session.Session.meet_pass.Goals as goal

pub returns-clause-own : goal.returns-clause-own
returns-clause-own c =
    let own : IsSessionOf (engine_board_id c.args.engine.now) (engine_sizes c.args.engine.now) c.meet.new.other = search rules in
    let pass : IsPassOf (engine_board_id c.args.engine.now) c.meet.new.self = search rules in
    (met c.args.engine.now c.args.self.now _ (pass_view c.meet.new.self) c.requires.own.0 own c.meet.ensures.other refl refl refl refl, pass)
