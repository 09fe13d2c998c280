use Rattle.std.proofs.Common.{◌≤◌, sym, subst, arith}
use Rattle.hg_base.specs.declared.report.Kind.TheVariants.{Group}
use Rattle.hg_base.specs.declared.report.Report.{Report}
use Rattle.hg_core.specs.Passes.{group_bound}
use Rattle.hg_rule.specs.declared.board.Board.{Board}
use Rattle.hg_rule.specs.declared.view.View.{View}
use Rattle.hg_rule.specs.declared.passes.CollectorPass.{CollectorPass}
use Rattle.hg_rule.specs.Facts.{record_of}
use Rattle.hg_rule.specs.Views.{pass, HasPass}
use Rattle.hg_rule.specs.Seats.{sizes_of, pass_view}
use Rattle.hg_tracker.specs.Boards.{board_sizes}
use Rattle.hg_tracker.specs.Gathers.{IsGatherOf}
use Rattle.hg_rounds.specs.Rounds.{report_in}
use Rattle.hg_collectors.specs.Taking.{TakesAll}
use Rattle.hg_collectors.specs.GroupCollectors.{view_of, Collects}
use Rattle.hg_rounds.proofs.Counted.{few}
use Rattle.hg_collectors.proofs.GroupRounds.{collects}
use Rattle.hg_collectors.proofs.group.GroupCollector.collect.Goals as goal

pub take_groups-removed-requires-clause-few : goal.take_groups-removed-requires-clause-few
take_groups-removed-requires-clause-few g c =
    let x = pass_view c.look_at.new.pass in
    let own : HasPass x = subst HasPass (sym c.look_at.ensures.stays) c.gather.ensures.own.1 in
    let least = few Group (sizes_of c.board-board.result.now) c.look_at.result x c.board-board.result.now.room c.look_at.ensures.backed own in
    omega (arith, least)

pub rewrite-requires : goal.rewrite-requires
rewrite-requires g c =
    let z = (board_sizes c.args.trackers.now).sessions in
    let x = pass (pass_view c.gather.new.pass) in
    let same = c.take_groups-removed.ensures.same in
    record { room = (z, x, subst (IsGatherOf z x) (sym same.0) c.gather.ensures.shown, subst (λ (r : Report). z ≤ r.entries.room) (sym same.1) c.requires.own.0.1.1) }

pub returns-clause-collects : goal.returns-clause-collects
returns-clause-collects g c =
    let x = pass_view c.gather.new.pass in
    let w = pass_view c.take_groups-removed.new.self.rounds.pass in
    let shown = c.gather.ensures.shown in
    let there = subst (λ (u : View). TakesAll (sizes_of c.board-board.result.now).buckets c.least-bound.result u c.take_groups-removed.result w) c.look_at.ensures.stays
    c.take_groups-removed.ensures.takes in
    let at = subst (λ n. TakesAll (sizes_of c.board-board.result.now).buckets n x c.take_groups-removed.result w) (c.least-bound.ensures _ _ shown) there in
    let takes = subst (λ (b : Board). TakesAll (sizes_of b).buckets (group_bound (record_of (pass x))) x c.take_groups-removed.result w) c.board-board.ensures at in
    let report = c.rewrite.ensures.reports _ _ (subst (IsGatherOf (board_sizes c.args.trackers.now).sessions (pass x)) (sym c.take_groups-removed.ensures.same.0) shown) in
    subst (λ (p : CollectorPass). Collects (board_sizes c.args.trackers.now) (view_of c.args.self.now) (report_in c.rewrite.new.self) (pass_view p)) (sym c.rewrite.ensures.same.0)
    (collects (board_sizes c.args.trackers.now) (view_of c.args.self.now) x w _ c.take_groups-removed.result c.gather.ensures.gathered
    (subst (λ n. TakesAll (board_sizes c.args.trackers.now).buckets (group_bound (record_of (pass x))) x n w) (sym report.removed_is) takes) report)
