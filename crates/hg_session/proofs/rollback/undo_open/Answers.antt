use Rattle.std.proofs.Common.{◌≡◌, map, ◌++◌, ◌∷◌, [], refl, sym, ap, ◌∙◌, subst, rules, None}
use Rattle.hg_core.specs.declared.log.LogEntry.TheVariants.{Undid, Over}
use Rattle.hg_core.specs.declared.phase.Phase.TheVariants.{Idle}
use Rattle.hg_core.specs.Logs.{open_in}
use Rattle.hg_rule.specs.Views.{session}
use Rattle.hg_rule.specs.Steps.{logging}
use Rattle.hg_rule.specs.Writes.{with_log}
use Rattle.hg_rule.specs.Seats.{session_view, IsSessionOf}
use Rattle.hg_session.specs.Engines.{engine_board_id, engine_sizes}
use Rattle.hg_session.specs.Ties.{Ties}
use Rattle.hg_session.proofs.Settling.{settled, gained}
use Rattle.hg_session.proofs.Undoing.{undone_log, all_undone, none_open, rolled_back, ties_rolled}
use Rattle.hg_session.proofs.rollback.undo_open.Goals as goal

pub end-requires-clause-none : goal.end-requires-clause-none
end-requires-clause-none g c =
    let v = session_view c.args.session.now.pass in
    let d = c.undo_each.ensures.undone in
    λ rid. ap (open_in rid) (undone_log v (session_view c.undo_each.new.pass) c.args.session.now.written.list d) ∙
    none_open c.args.session.now.written.list (session v).log rid c.requires.own.ties.written_is

pub returns-clause-gains : goal.returns-clause-gains
returns-clause-gains g c =
    let v = session_view c.args.session.now.pass in
    let d = c.undo_each.ensures.undone in
    let r = rolled_back v (session_view c.undo_each.new.pass) (session_view c.end.new.pass) c.args.session.now.written.list d c.end.ensures.step in (
      c.args.session.now.written.list,
      (
        all_undone c.args.session.now.written.list (session v).log c.requires.own.ties.plain c.requires.own.ties.written_is,
        gained v
            (session_view c.end.new.pass) _ (Over ∷ map Undid c.args.session.now.written.list) r.alone refl,
      ),
    )

pub returns-clause-own : goal.returns-clause-own
returns-clause-own g c =
    let v = session_view c.args.session.now.pass in
    let d = c.undo_each.ensures.undone in
    let r = rolled_back v (session_view c.undo_each.new.pass) (session_view c.end.new.pass) c.args.session.now.written.list d c.end.ensures.step in
    let own : IsSessionOf (engine_board_id c.args.engine.now) (engine_sizes c.args.engine.now) c.end.new.pass = search rules in
    let none : c.undo_each.new.records.list ≡ [] = c.undo_each.ensures.emptied in
    let part = logging Over Idle (with_log (map Undid c.args.session.now.written.list ++ (session v).log) (session v)) in
    let ties = ties_rolled (engine_sizes c.args.engine.now).quota c.args.session.now.left 0 0 _ _ c.args.session.now.written.list (session v) c.requires.own.ties in
    settled c.args.engine.now 0 0 v _ part v.sights own r.alone (subst (λ l. Ties (engine_sizes c.args.engine.now).quota None l c.args.session.now.left 0 0 part) (sym none) ties)
    r.heard c.requires.own.closed
