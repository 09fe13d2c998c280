use Rattle.std.proofs.Common.{◌∙◌, rules}
use Rattle.hg_rule.specs.Seats.{session_view, IsSeatOf}
use Rattle.hg_rule.specs.Views.{others}
use Rattle.hg_rule.proofs.Holders.{still_session}
use Rattle.hg_session.specs.Engines.{engine_board_id, engine_sizes}
use Rattle.hg_session.proofs.SoFar.{parts_after}
use Rattle.hg_session.proofs.so_far.count_one.Goals as goal

pub returns-clause-own : goal.returns-clause-own
returns-clause-own g c =
    let z = engine_sizes c.args.engine.now in
    let v = session_view c.args.holder.now in
    let x = session_view c.take-held.new.pass in
    let seat : IsSeatOf (engine_board_id c.args.engine.now) c.give.new.pass.seat = search rules in
    still_session (engine_board_id c.args.engine.now) z c.args.holder.now c.give.new.pass (others v) c.requires.own seat (c.give.ensures.own.1 ∙ c.take-held.ensures.own.1)
    (parts_after z v x c.args.bucket c.requires.own.3 c.take-held.ensures.view (session_view c.give.new.pass) c.give.ensures.view ∙ c.requires.own.3)
