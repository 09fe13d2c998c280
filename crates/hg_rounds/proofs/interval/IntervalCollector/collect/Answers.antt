use Rattle.std.proofs.Common.{sym, ap, ◌∙◌, subst}
use Rattle.hg_base.specs.declared.report.Kind.TheVariants.{Interval}
use Rattle.hg_core.specs.Passes.{PassRecord}
use Rattle.hg_rule.specs.declared.passes.CollectorPass.{CollectorPass}
use Rattle.hg_rule.specs.Facts.{record_of}
use Rattle.hg_rule.specs.Views.{pass}
use Rattle.hg_rule.specs.Seats.{pass_view}
use Rattle.hg_tracker.specs.Boards.{board_sizes}
use Rattle.hg_rounds.specs.Rounds.{report_in}
use Rattle.hg_rounds.specs.Visits.{VisitsAll}
use Rattle.hg_rounds.proofs.Going.{same_pass}
use Rattle.hg_rounds.proofs.Reported.{gathered_reports}
use Rattle.hg_rounds.specs.Sweeping.{IsCleanBy}
use Rattle.hg_rounds.specs.IntervalCollectors.{view_of, Sweeps}
use Rattle.hg_rounds.specs.Costs.{VisitsCost}
use Rattle.hg_rounds.proofs.interval.IntervalCollector.collect.Goals as goal

pub rewrite-requires : goal.rewrite-requires
rewrite-requires g c = record { room = ((board_sizes c.args.trackers.now).sessions, pass (pass_view c.gather.new.pass), c.gather.ensures.shown, c.requires.own.1.1) }

pub returns-clause-sweeps : goal.returns-clause-sweeps
returns-clause-sweeps g c =
    let z = board_sizes c.args.trackers.now in
    let v = view_of c.args.self.now in
    let x = pass_view c.gather.new.pass in
    let w = pass_view c.visit_all-removed.new.pass in
    let shown = c.gather.ensures.shown in
    let gathers = c.gather.ensures.gathered in
    let report = c.rewrite.ensures.reports _ _ shown in
    let visits = subst (λ n. VisitsAll Interval (IsCleanBy (record_of (pass x))) z.buckets n x w) (sym report.removed_is)
    (subst (λ n. VisitsAll Interval (IsCleanBy (record_of (pass x))) n c.visit_all-removed.result x w) c.requires.buckets c.visit_all-removed.ensures.visits) in
    subst (λ (p : CollectorPass). Sweeps z v (report_in c.rewrite.new.self) (pass_view p)) (sym c.rewrite.ensures.same.0) record {
      gathered = x;
      gathers = gathers;
      visits = visits;
      reports = gathered_reports Interval v x w z.sessions _ c.visit_all-removed.result gathers visits.on report visits.gone_is;
    }

pub returns-clause-cost : goal.returns-clause-cost
returns-clause-cost g c =
    let z = board_sizes c.args.trackers.now in
    let x = pass_view c.gather.new.pass in
    let w = pass_view c.visit_all-removed.new.pass in
    let same = ap (λ (p : CollectorPass). record_of (pass (pass_view p))) c.rewrite.ensures.same.0 ∙ (same_pass Interval x w c.visit_all-removed.ensures.visits.on).record_is in
    subst (λ (p : PassRecord). VisitsCost z p z.buckets c.args.steps.now c.visit_all-removed.new.steps) (sym same)
    (subst (λ n. VisitsCost z (record_of (pass x)) n c.args.steps.now c.visit_all-removed.new.steps) c.requires.buckets c.visit_all-removed.ensures.cost)
