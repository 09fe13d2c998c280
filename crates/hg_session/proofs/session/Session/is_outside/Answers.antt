use Rattle.std.proofs.Common.{rules}
use Rattle.hg_core.specs.declared.ask.Ask.TheVariants.{Outside}
use Rattle.hg_core.specs.declared.log.LogEntry.TheVariants as entries
use Rattle.hg_rule.specs.Views.{session}
use Rattle.hg_rule.specs.Seats.{session_view, IsSessionOf}
use Rattle.hg_session.specs.Engines.{engine_board_id, engine_sizes}
use Rattle.hg_session.proofs.Tying.{ties_quiet, ties_unbegun}
use Rattle.hg_session.proofs.Trips.{looked_alone}
use Rattle.hg_session.proofs.Settling.{settled}
use Rattle.hg_session.proofs.session.Session.is_outside.Goals as goal

pub returns-clause-own : goal.returns-clause-own
returns-clause-own c =
    let v = session_view c.args.self.now.pass in
    let l = looked_alone v (session_view c.look.new.pass) c.look.result (Outside c.args.table) c.requires.own.only c.look.ensures.step.looks in
    let own : IsSessionOf (engine_board_id c.args.engine.now) (engine_sizes c.args.engine.now) c.look.new.pass = search rules in
    settled c.args.engine.now 0 1 v _ _ v.sights own l.0 (ties_unbegun _ _ _ _ _ (ties_quiet _ _ 1 1 _ _ (session v) (entries.Outside c.args.table) tt c.requires.own.ties)) l.1 c.requires.own.closed
