use Rattle.std.proofs.Common.{◌≡◌, refl, sym, subst, slice_get, Some, rules}
use Rattle.hg_base.specs.declared.report.Kind.TheVariants.{Interval}
use Rattle.hg_bucket.specs.BucketModel.{BucketModel, long_keys}
use Rattle.hg_bucket.specs.Sweeping.{swept}
use Rattle.hg_rule.specs.Facts.{record_of}
use Rattle.hg_rule.specs.Views.{pass}
use Rattle.hg_rule.specs.Seats.{pass_view}
use Rattle.hg_store.proofs.Doing.{does_interval}
use Rattle.hg_store.proofs.Rising.{rises_of}
use Rattle.hg_store.proofs.Stepping.{reclaim_gone, reclaim_holds}
use Rattle.hg_store.proofs.Boxing.{boxed, boxed_holds}
use Rattle.hg_store.proofs.held.Held.sweep_one.Goals as goal

pub returns-clause-gone : goal.returns-clause-gone
returns-clause-gone g c =
    reclaim_gone Interval (swept c.args.guards.now.horizon c.args.guards.now.snapshots.now) (pass_view c.args.pass.now)
    (boxed c.args.self.now c.deref_mut.result.now) c.sweep_long.new.self c.args.long.rid c.sweep_long.result
    (boxed_holds c.args.self.now c.deref_mut.result.now c.deref_mut.ensures.value c.requires.holds.1)
    (does_interval c.args.long.rid.table (record_of (pass (pass_view c.args.pass.now))) c.args.guards.now.horizon c.args.guards.now.snapshots.now c.requires.gathered.0
    c.requires.gathered.2) c.sweep_long.ensures.here c.sweep_long.ensures.gone

pub returns-clause-holds : goal.returns-clause-holds
returns-clause-holds g c = (
  (
    search rules,
    reclaim_holds Interval (swept c.args.guards.now.horizon c.args.guards.now.snapshots.now) (pass_view c.args.pass.now) (pass_view c.reclaim.new.pass)
        (boxed c.args.self.now c.deref_mut.result.now) _ c.args.long.rid c.sweep_long.result
        (boxed_holds c.args.self.now c.deref_mut.result.now c.deref_mut.ensures.value c.requires.holds.1) c.requires.holds.0.1 refl
        (does_interval c.args.long.rid.table (record_of (pass (pass_view c.args.pass.now))) c.args.guards.now.horizon c.args.guards.now.snapshots.now c.requires.gathered.0
        c.requires.gathered.2) c.reclaim.ensures.step c.sweep_long.ensures.here c.sweep_long.ensures.others c.sweep_long.ensures.gone c.sweep_long.ensures.interval,
  ),
  (search rules, search rules),
)

pub sweep_long-requires-clause-rises : goal.sweep_long-requires-clause-rises
sweep_long-requires-clause-rises g c = rises_of c.args.guards.now.snapshots.now c.requires.gathered.1

pub sweep_long-requires-clause-stands : goal.sweep_long-requires-clause-stands
sweep_long-requires-clause-stands g c = subst (λ (b : BucketModel). slice_get (long_keys b c.args.long.rid.table) c.args.long.at ≡ Some c.args.long.rid.key)
    (sym c.deref_mut.ensures.value) c.requires.listed
