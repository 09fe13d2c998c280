use Rattle.std.proofs.Common.{rules}
use Rattle.hg_rule.specs.Views.{session}
use Rattle.hg_rule.specs.Seats.{session_view, IsSessionOf}
use Rattle.hg_session.specs.Engines.{engine_board_id, engine_sizes}
use Rattle.hg_session.proofs.Tying.{ties_over}
use Rattle.hg_session.proofs.Trips.{ended}
use Rattle.hg_session.proofs.Settling.{settled}
use Rattle.hg_session.proofs.session.Session.end.Goals as goal

pub returns-clause-own : goal.returns-clause-own
returns-clause-own c =
    let v = session_view c.args.self.now.pass in
    let e = ended v (session_view c.end.new.pass) c.requires.own.only c.end.ensures.step in
    let own : IsSessionOf (engine_board_id c.args.engine.now) (engine_sizes c.args.engine.now) c.end.new.pass = search rules in
    settled c.args.engine.now 0 0 v _ _ v.sights own e.0 (ties_over _ _ 0 0 _ _ (session v) c.requires.unwritten c.requires.own.ties) e.1 c.requires.own.closed
