use Rattle.std.proofs.Common.{◌≡◌, ◌∙◌, ◌<◌, ◌≤◌, ◌+◌, [], ◌∷◌, Some, None, ap, sym, arith, drop, get_or, length, length-append, length-drop}
use Rattle.csv.specs.Records.{fields_of}
use Rattle.hg_base.specs.declared.value.Column.TheVariants as column
use Rattle.hg_script.specs.declared.values.Values.TheVariants.{Bad}
use Rattle.hg_script.specs.Draft.{row_in, value_in}
use Rattle.hg_script.specs.Fields.{nth}
use Rattle.hg_script.proofs.Typed.{all-values, is-bad, more-value, no-value}
use Rattle.hg_script.proofs.values.Values.read_mixed.Goals as goal

pub loop-i-preserved : goal.loop-i-preserved
loop-i-preserved c =
    let r = fields_of c.args.row.now in
    let i = c.loop-i.i in
    let kinds = c.args.kinds.now in
    let inv = c.loop-i.invariant in
    let room : 4 + i < length r = omega (arith, c.loop-i-test.true, c.requires.many) in
    let is : value_in (get_or kinds i column.Number) (nth r (4 + i)) ≡ Some c.in-Some.value = sym (ap (value_in (get_or kinds i column.Number)) c.field.ensures) ∙
    sym c.read_value.ensures ∙ c.in-Some.is in
    let added = c.in_ok-push-in-Some.ensures.items in record {
      many = omega (arith, ap length added, length-append c.loop-i.values.items (c.in-Some.value ∷ []), inv.many);
      values = rw added (more-value kinds r i column.Number c.loop-i.values.items c.in-Some.value _ c.loop-i-test.true room is inv.values);
    }

pub returns-in-None : goal.returns-in-None
returns-in-None c =
    let r = fields_of c.args.row.now in
    let i = c.loop-i.i in
    let kinds = c.args.kinds.now in
    let room : 4 + i < length r = omega (arith, c.loop-i-test.true, c.requires.many) in
    let is : value_in (get_or kinds i column.Number) (nth r (4 + i)) ≡ None = sym (ap (value_in (get_or kinds i column.Number)) c.field.ensures) ∙ sym c.read_value.ensures ∙ c.in-None.is in
    let none : row_in kinds (drop 4 r) ≡ None = no-value kinds r i column.Number c.loop-i.values.items _ c.loop-i-test.true room is c.loop-i.invariant.values in
    let many : length kinds ≡ length (drop 4 r) = omega (arith, length-drop 4 r, c.requires.many) in
    ap Bad many ∙ sym (is-bad kinds (drop 4 r) none)

pub returns : goal.returns
returns c =
    let r = fields_of c.args.row.now in
    let over : length c.args.kinds.now ≤ c.loop-i.i = omega (arith, c.loop-i-test.false) in
    let all = all-values c.args.kinds.now r c.loop-i.i c.loop-i.values.items over (omega (arith, over, c.requires.many)) c.loop-i.invariant.values in
    cc (c.in_ok-from_values.ensures.same)
