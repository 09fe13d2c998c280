use Rattle.std.proofs.Common.{◌≡◌, ◌∙◌, refl, ap, length-set, arith, rules}
use Rattle.hg_report.specs.Fields.{fields_of, integer_value}
use Rattle.hg_base.specs.Number.{integer_of}
use Rattle.hg_report.proofs.ValuesIn.{values_none, numbers_more}
use Rattle.hg_report.proofs.values.numbers_in.Goals as goal
use mir.Val.{SFits, of_z, to_z}
use mir.Syntax.{w64}
use Rattle.std.proofs.lemmas.Int.{to_z-of_z}

pub loop-k-init : goal.loop-k-init
loop-k-init c = record { size = refl; same = values_none _ _ }

pub loop-k-preserved : goal.loop-k-preserved
loop-k-preserved c =
    let values = c.loop-k.values in
    let fits : SFits w64 c.integer_value.result = search rules in
    let value : to_z w64 (of_z w64 c.integer_value.result) ≡ c.integer_value.result = to_z-of_z w64 c.integer_value.result fits in
    let read = value ∙ c.integer_value.ensures ∙ ap integer_value c.read_integer.ensures ∙ ap (λ text. integer_value (integer_of text)) c.field.ensures in
    record {
      size = length-set values c.loop-k.k _ ∙ c.loop-k.invariant.size;
      same = numbers_more (fields_of c.args.row.now) c.args.i c.args.kinds.now c.loop-k.k values _ c.requires.numbers c.loop-k-test.true
          (omega (arith, c.loop-k.invariant.size, c.loop-k-test.true, c.requires.few.2)) c.loop-k.invariant.same read;
    }
