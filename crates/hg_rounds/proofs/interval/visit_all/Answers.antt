use Rattle.std.proofs.Common.{◌≡◌, ◌+◌, suc, subst, arith}
use Rattle.hg_base.specs.declared.report.Kind.TheVariants.{Interval}
use Rattle.hg_core.specs.Passes.{PassRecord}
use Rattle.hg_rule.specs.Facts.{record_of}
use Rattle.hg_rule.specs.Views.{pass}
use Rattle.hg_rule.specs.Seats.{pass_view}
use Rattle.hg_tracker.specs.Boards.{board_sizes}
use Rattle.hg_store.specs.Stores.{store_buckets}
use Rattle.hg_rounds.specs.Visits.{VisitsAll}
use Rattle.hg_rounds.proofs.Going.{same_pass}
use Rattle.hg_rounds.proofs.Visiting.{visits_none, visits_more, visits_few}
use Rattle.hg_rounds.specs.Sweeping.{IsCleanBy}
use Rattle.hg_rounds.specs.Costs.{VisitCosts, VisitsCost}
use Rattle.hg_rounds.proofs.interval.visit_all.Given as given
use Rattle.hg_rounds.proofs.interval.visit_all.Goals as goal

pub loop-b-init : goal.loop-b-init
loop-b-init g c = let v = pass_view c.args.pass.now in (visits_none Interval (IsCleanBy (record_of (pass v))) v c.requires.own.1, c.requires.own, c.requires.shown, omega arith)

-- a bucket more
more : (g : given.Over) (c : goal.After-visit_bucket-gone g) → VisitsAll Interval (IsCleanBy (record_of (pass (pass_view c.args.pass.now)))) (c.loop-b.b + 1)
    (c.loop-b.gone + c.visit_bucket-gone.result) (pass_view c.args.pass.now) (pass_view c.visit_bucket-gone.new.pass)
more g c = visits_more Interval IsCleanBy (pass_view c.args.pass.now) (pass_view c.loop-b.pass) (pass_view c.visit_bucket-gone.new.pass) c.loop-b.b c.loop-b.gone
    c.visit_bucket-gone.result c.loop-b.invariant.0 c.visit_bucket-gone.ensures.visits

pub overflow_add-gone : goal.overflow_add-gone
overflow_add-gone g c =
    let v = pass_view c.args.pass.now in
    let few = visits_few Interval (IsCleanBy (record_of (pass v))) (c.loop-b.b + 1) (c.loop-b.gone + c.visit_bucket-gone.result) v (pass_view c.visit_bucket-gone.new.pass)
    (more g c) c.visit_bucket-gone.ensures.few in
    omega (arith, few)

pub loop-b-preserved : goal.loop-b-preserved
loop-b-preserved g c =
    let v = pass_view c.args.pass.now in
    let w = pass_view c.loop-b.pass in
    let b = c.loop-b.b in
    let z = board_sizes c.args.tools.now.trackers.now in
    let same = (same_pass Interval v w c.loop-b.invariant.0.on).record_is in
    let one = subst (λ (p : PassRecord). VisitCosts z p b c.loop-b.steps c.visit_bucket-gone.new.steps) same c.visit_bucket-gone.ensures.cost in
    let next : suc b ≡ b + 1 = omega arith in
    let cost : VisitsCost z (record_of (pass v)) (suc b) c.args.steps.now c.visit_bucket-gone.new.steps = (c.loop-b.steps, c.loop-b.invariant.3, one) in
    (more g c, c.visit_bucket-gone.ensures.own, c.visit_bucket-gone.ensures.shown, subst (λ n. VisitsCost z (record_of (pass v)) n c.args.steps.now c.visit_bucket-gone.new.steps) next cost)

pub returns-clause-visits : goal.returns-clause-visits
returns-clause-visits g c =
    let v = pass_view c.args.pass.now in
    let end : c.loop-b.b ≡ store_buckets c.args.tools.now.store.now = omega (arith, c.loop-b.auto.b-end, c.loop-b-test.false, c.buckets-b-end.ensures) in
    subst (λ n. VisitsAll Interval (IsCleanBy (record_of (pass v))) n c.loop-b.gone v (pass_view c.loop-b.pass)) end c.loop-b.invariant.0

pub returns-clause-cost : goal.returns-clause-cost
returns-clause-cost g c =
    let v = pass_view c.args.pass.now in
    let end : c.loop-b.b ≡ store_buckets c.args.tools.now.store.now = omega (arith, c.loop-b.auto.b-end, c.loop-b-test.false, c.buckets-b-end.ensures) in
    subst (λ n. VisitsCost (board_sizes c.args.tools.now.trackers.now) (record_of (pass v)) n c.args.steps.now c.loop-b.steps) end c.loop-b.invariant.3
