use Rattle.std.proofs.Common.{◌≡◌, sym, ap, ◌∙◌, subst}
use Rattle.hg_base.specs.declared.report.Kind.TheVariants.{Table}
use Rattle.hg_base.specs.Lists.{Each}
use Rattle.hg_rule.specs.Facts.{record_of}
use Rattle.hg_rule.specs.Views.{number, pass}
use Rattle.hg_rule.specs.Seats.{pass_view}
use Rattle.hg_tracker.specs.Begun.{AtMost}
use Rattle.hg_tracker.specs.Boards.{board_sizes}
use Rattle.hg_rounds.specs.Rounds.{report_in}
use Rattle.hg_rounds.specs.Visits.{VisitsAll}
use Rattle.hg_rounds.proofs.Reported.{reports, reports_steps}
use Rattle.hg_rounds.specs.Cutting.{IsCutBy}
use Rattle.hg_rounds.specs.TableCollectors.{view_of, Cuts}
use Rattle.hg_rounds.specs.Moving.{TriesLong}
use Rattle.hg_rounds.proofs.Moving.{tries_long, moving_events, moving_gains, moving_round, moving_removes_none, moving_mark}
use Rattle.hg_rounds.proofs.table.TableCollector.collect.Goals as goal

pub rewrite-requires : goal.rewrite-requires
rewrite-requires g c = record { room = ((board_sizes c.args.trackers.now).sessions, pass (pass_view c.move_long.new.pass), c.move_long.ensures.shown, c.requires.own.1.1) }

pub returns-clause-cuts : goal.returns-clause-cuts
returns-clause-cuts g c =
    let z = board_sizes c.args.trackers.now in
    let v = view_of c.args.self.now in
    let x = pass_view c.gather.new.pass in
    let y = pass_view c.move_long.new.pass in
    let w = pass_view c.visit_all-removed.new.pass in
    let shown = c.move_long.ensures.shown in
    let gathers = c.gather.ensures.gathered in
    let moves = c.move_long.ensures.moved in
    let report = c.rewrite.ensures.reports _ _ shown in
    let visits = subst (λ n. VisitsAll Table (IsCutBy (record_of (pass y))) z.buckets n y w) (sym report.removed_is)
    (subst (λ n. VisitsAll Table (IsCutBy (record_of (pass y))) n c.visit_all-removed.result y w) c.requires.buckets c.visit_all-removed.ensures.visits) in
    let most = subst (λ m. Each (AtMost m) v.sights) (sym (moving_mark v x y z.sessions _ _ gathers moves)) gathers.most in
    let stays : pass_view c.look_at.new.pass ≡ w = c.look_at.ensures.stays ∙ ap pass_view c.rewrite.ensures.same.0 in
    subst (Cuts z c.args.long v (report_in c.rewrite.new.self)) (sym stays) record {
      gathered = x;
      gathers = gathers;
      moved = y;
      count = c.move_long.result;
      moves = moves;
      loaded = shown.loaded;
      visits = visits;
      reports = reports Table v y w _ (moving_events v x y z.sessions _ _ gathers moves) (moving_gains v x y z.sessions _ _ gathers moves)
          (moving_round v x y z.sessions _ _ gathers moves) (moving_removes_none v x y z.sessions _ _ gathers moves) visits.on c.visit_all-removed.result report visits.gone_is most;
      tries = subst (TriesLong c.args.long) (sym (reports_steps Table v y w _ (moving_events v x y z.sessions _ _ gathers moves) (moving_gains v x y z.sessions _ _ gathers moves)
          (moving_round v x y z.sessions _ _ gathers moves) (moving_removes_none v x y z.sessions _ _ gathers moves) visits.on c.visit_all-removed.result report visits.gone_is
          most)) (tries_long c.args.long (number v) (number x) (pass x).mark (pass x).loaded moves.outcomes visits.on.steps visits.on.work moves.each);
    }
