use Rattle.std.proofs.Common.{◌∙◌, ap, arith, length, length-append, ◌∷◌, []}
use Rattle.hg_base.specs.declared.value.Column.TheVariants as columns
use Rattle.hg_report.specs.Fields.{fields_of, value_in}
use Rattle.hg_report.proofs.ValuesIn.{values_none, values_more}
use Rattle.hg_report.proofs.values.values_in.Goals as goal

pub loop-k-init : goal.loop-k-init
loop-k-init c = record { many = ap length c.in_ok-values.ensures.items; same = c.in_ok-values.ensures.items ∙ values_none _ _ }

pub loop-k-preserved : goal.loop-k-preserved
loop-k-preserved c = record {
  many = omega (arith, ap length c.in_ok-push.ensures.items, length-append c.loop-k.values.items (c.in_ok-value_in.field-0 ∷ []), c.loop-k.invariant.many);
  same = values_more (fields_of c.args.row.now) c.args.i c.args.kinds.now c.loop-k.k columns.Number c.loop-k.values.items c.push.new.self.items c.in_ok-value_in.field-0
      c.loop-k-test.true c.loop-k.invariant.same
      (c.in_ok-value_in.ensures ∙ ap (value_in _) c.field.ensures) c.in_ok-push.ensures.items;
}

pub from_values-requires-clause-some : goal.from_values-requires-clause-some
from_values-requires-clause-some c = omega (arith, c.loop-k.invariant.many, c.loop-k-test.false, c.requires.1)

pub from_values-requires-clause-most : goal.from_values-requires-clause-most
from_values-requires-clause-most c = omega (arith, c.loop-k.invariant.many, c.loop-k.auto.k-end, c.requires.2)
