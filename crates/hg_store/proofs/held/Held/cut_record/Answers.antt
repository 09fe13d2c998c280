use Rattle.std.proofs.Common.{refl, rules}
use Rattle.hg_base.specs.declared.report.Kind.TheVariants.{Group}
use Rattle.hg_bucket.specs.BucketModel.{cut_at}
use Rattle.hg_rule.specs.Facts.{record_of}
use Rattle.hg_rule.specs.Views.{pass}
use Rattle.hg_rule.specs.Seats.{pass_view}
use Rattle.hg_store.proofs.Doing.{does_group}
use Rattle.hg_store.proofs.Stepping.{reclaim_gone, reclaim_holds}
use Rattle.hg_store.proofs.Boxing.{boxed, boxed_holds}
use Rattle.hg_store.proofs.held.Held.cut_record.Goals as goal

pub returns-clause-gone : goal.returns-clause-gone
returns-clause-gone c =
    reclaim_gone Group (cut_at c.args.bound) (pass_view c.args.pass.now) (boxed c.args.self.now c.deref_mut.result.now) c.cut_record.new.self c.args.rid c.cut_record.result
    (boxed_holds c.args.self.now c.deref_mut.result.now c.deref_mut.ensures.value c.requires.holds.1)
    (does_group c.args.rid.table (record_of (pass (pass_view c.args.pass.now))) c.args.bound c.requires.bound) c.cut_record.ensures.here c.cut_record.ensures.gone

pub returns-clause-holds : goal.returns-clause-holds
returns-clause-holds c = (
  (
    search rules,
    reclaim_holds Group (cut_at c.args.bound) (pass_view c.args.pass.now) (pass_view c.reclaim.new.pass)
        (boxed c.args.self.now c.deref_mut.result.now) _ c.args.rid c.cut_record.result
        (boxed_holds c.args.self.now c.deref_mut.result.now c.deref_mut.ensures.value c.requires.holds.1) c.requires.holds.0.1 refl
        (does_group c.args.rid.table (record_of (pass (pass_view c.args.pass.now))) c.args.bound c.requires.bound) c.reclaim.ensures.step c.cut_record.ensures.here
        c.cut_record.ensures.others c.cut_record.ensures.gone c.cut_record.ensures.group,
  ),
  (search rules, search rules),
)
