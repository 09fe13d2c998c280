use Rattle.std.proofs.Common.{◌≡◌, refl, sym, subst, slice_get, Some, rules}
use Rattle.hg_base.specs.declared.report.Kind.TheVariants.{Table}
use Rattle.hg_bucket.specs.BucketModel.{BucketModel, cut_at, long_keys}
use Rattle.hg_rule.specs.Facts.{record_of}
use Rattle.hg_rule.specs.Views.{pass}
use Rattle.hg_rule.specs.Seats.{pass_view}
use Rattle.hg_store.proofs.Doing.{does_table}
use Rattle.hg_store.proofs.Stepping.{reclaim_gone, reclaim_holds}
use Rattle.hg_store.proofs.Boxing.{boxed, boxed_holds}
use Rattle.hg_store.proofs.held.Held.cut_one.Goals as goal

pub returns-clause-gone : goal.returns-clause-gone
returns-clause-gone c =
    reclaim_gone Table (cut_at c.args.bound) (pass_view c.args.pass.now) (boxed c.args.self.now c.deref_mut.result.now) c.cut_long.new.self c.args.rid c.cut_long.result
    (boxed_holds c.args.self.now c.deref_mut.result.now c.deref_mut.ensures.value c.requires.holds.1)
    (does_table c.args.rid.table (record_of (pass (pass_view c.args.pass.now))) c.args.bound c.requires.bound) c.cut_long.ensures.here c.cut_long.ensures.gone

pub returns-clause-holds : goal.returns-clause-holds
returns-clause-holds c = (
  (
    search rules,
    reclaim_holds Table (cut_at c.args.bound) (pass_view c.args.pass.now) (pass_view c.reclaim.new.pass)
        (boxed c.args.self.now c.deref_mut.result.now) _ c.args.rid c.cut_long.result
        (boxed_holds c.args.self.now c.deref_mut.result.now c.deref_mut.ensures.value c.requires.holds.1) c.requires.holds.0.1 refl
        (does_table c.args.rid.table (record_of (pass (pass_view c.args.pass.now))) c.args.bound c.requires.bound) c.reclaim.ensures.step c.cut_long.ensures.here
        c.cut_long.ensures.others c.cut_long.ensures.gone c.cut_long.ensures.table,
  ),
  (search rules, search rules),
)

pub cut_long-requires : goal.cut_long-requires
cut_long-requires c = subst (λ (b : BucketModel). slice_get (long_keys b c.args.rid.table) c.args.at ≡ Some c.args.rid.key) (sym c.deref_mut.ensures.value) c.requires.listed
