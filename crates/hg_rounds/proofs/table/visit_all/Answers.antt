use Rattle.std.proofs.Common.{◌≡◌, ◌+◌, subst, arith}
use Rattle.hg_base.specs.declared.report.Kind.TheVariants.{Table}
use Rattle.hg_rule.specs.Facts.{record_of}
use Rattle.hg_rule.specs.Views.{pass}
use Rattle.hg_rule.specs.Seats.{pass_view}
use Rattle.hg_store.specs.Stores.{store_buckets}
use Rattle.hg_rounds.specs.Visits.{VisitsAll}
use Rattle.hg_rounds.proofs.Visiting.{visits_none, visits_more, visits_few}
use Rattle.hg_rounds.specs.Cutting.{IsCutBy}
use Rattle.hg_rounds.proofs.table.visit_all.Given as given
use Rattle.hg_rounds.proofs.table.visit_all.Goals as goal

pub loop-b-init : goal.loop-b-init
loop-b-init g c = let v = pass_view c.args.pass.now in (visits_none Table (IsCutBy (record_of (pass v))) v c.requires.own.1, c.requires.own, c.requires.shown)

-- a bucket more
more : (g : given.Over) (c : goal.After-visit_bucket-gone g) → VisitsAll Table (IsCutBy (record_of (pass (pass_view c.args.pass.now)))) (c.loop-b.b + 1)
    (c.loop-b.gone + c.visit_bucket-gone.result) (pass_view c.args.pass.now) (pass_view c.visit_bucket-gone.new.pass)
more g c = visits_more Table IsCutBy (pass_view c.args.pass.now) (pass_view c.loop-b.pass) (pass_view c.visit_bucket-gone.new.pass) c.loop-b.b c.loop-b.gone
    c.visit_bucket-gone.result c.loop-b.invariant.0 c.visit_bucket-gone.ensures.visits

pub overflow_add-gone : goal.overflow_add-gone
overflow_add-gone g c =
    let v = pass_view c.args.pass.now in
    let few = visits_few Table (IsCutBy (record_of (pass v))) (c.loop-b.b + 1) (c.loop-b.gone + c.visit_bucket-gone.result) v (pass_view c.visit_bucket-gone.new.pass)
    (more g c) c.visit_bucket-gone.ensures.few in
    omega (arith, few)

pub loop-b-preserved : goal.loop-b-preserved
loop-b-preserved g c = (more g c, c.visit_bucket-gone.ensures.own, c.visit_bucket-gone.ensures.shown)

pub returns-clause-visits : goal.returns-clause-visits
returns-clause-visits g c =
    let v = pass_view c.args.pass.now in
    let end : c.loop-b.b ≡ store_buckets c.args.store.now = omega (arith, c.loop-b.auto.b-end, c.loop-b-test.false, c.buckets-b-end.ensures) in
    subst (λ n. VisitsAll Table (IsCutBy (record_of (pass v))) n c.loop-b.gone v (pass_view c.loop-b.pass)) end c.loop-b.invariant.0
