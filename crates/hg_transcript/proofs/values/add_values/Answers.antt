use Rattle.std.proofs.Common.{◌<◌, ◌++◌, ◌∙◌, ap, arith, length}
use Rattle.hg_base.specs.Text.{value_field}
use Rattle.hg_records.specs.Bytes.{further_bytes}
use Rattle.hg_transcript.proofs.RecordBytes.{fields_more}
use Rattle.hg_transcript.proofs.values.add_values.Goals as goal

pub loop-i-preserved : goal.loop-i-preserved
loop-i-preserved c =
    let less : c.loop-i.i < length c.args.row.now = omega (arith, c.loop-i-test.true, c.len-i-end.ensures) in
    let added = c.in_ok-add_number_or_text.ensures ∙ ap (λ v. c.loop-i.text.items ++ further_bytes (value_field v)) c.value.ensures in
    fields_more value_field c.args.text.now.items c.loop-i.text.items c.add_number_or_text.new.text.items c.args.row.now c.loop-i.i c.value.result less c.loop-i.invariant added
