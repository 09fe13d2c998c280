use Rattle.std.proofs.Common.{◌≡◌, ◌∙◌, ◌<◌, ◌+◌, ap, length, length-set, sym, arith, rules}
use Rattle.csv.specs.Records.{fields_of}
use Rattle.hg_base.specs.Number.{integer_of}
use Rattle.hg_script.specs.Fields.{nth}
use Rattle.hg_base.specs.declared.number.Integer.TheVariants.{Over, Is}
use Rattle.hg_script.proofs.Taken.{more-over, more-is}
use Rattle.hg_script.proofs.values.Values.read_numbers.Goals as goal
use Rattle.hg_script.proofs.values.Values.read_numbers.Goals.{in-Over, in-Is}
use mir.Val.{SFits, of_z, to_z}
use mir.Syntax.{w64}
use Rattle.std.proofs.lemmas.Int.{to_z-of_z}

pub loop-i-preserved : goal.loop-i-preserved
loop-i-preserved c =
    let r = fields_of c.args.row.now in
    let at : 4 + c.loop-i.i < length r = omega (arith, c.loop-i-test.true, c.len-count.ensures) in
    let inv = c.loop-i.invariant in
    let room : c.loop-i.i < length c.loop-i.row_values = rw inv.room (omega (arith, c.loop-i-test.true, c.len-count.ensures)) in
    let reads : c.read_integer.result ≡ integer_of (nth r (4 + c.loop-i.i)) = c.read_integer.ensures ∙ ap integer_of c.field.ensures in
    elim c.match-read_integer.branch [
      | in-Over w ↦
          let over : integer_of (nth r (4 + c.loop-i.i)) ≡ Over = sym reads ∙ w.in-Over.is in
          record {
            room = ap length w.row_values-is ∙ inv.room;
            values = rw (w.over-is, w.row_values-is) (more-over r c.loop-i.i c.loop-i.over c.loop-i.row_values _ at over inv.values);
          }
      | in-Is w ↦
          let is : integer_of (nth r (4 + c.loop-i.i)) ≡ Is w.in-Is.value = sym reads ∙ w.in-Is.is in
          let fits : SFits w64 w.in-Is.value = search rules in
          let same : to_z w64 (of_z w64 w.in-Is.value) ≡ w.in-Is.value = to_z-of_z w64 w.in-Is.value fits in
          record {
            room = ap length w.row_values-is ∙ length-set _ _ _ ∙ inv.room;
            values = rw (w.over-is, w.row_values-is, same) (more-is r c.loop-i.i c.loop-i.over c.loop-i.row_values w.in-Is.value _ at room is inv.values);
          }
    ]
