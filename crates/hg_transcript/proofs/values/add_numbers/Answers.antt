use Rattle.std.proofs.Common.{◌++◌, ◌∙◌, ℤ, pos, get_or, ap, rules}
use Rattle.std.specs.Fmt.{signed_decimal}
use Rattle.hg_records.specs.Bytes.{further_bytes}
use Rattle.hg_transcript.proofs.RecordBytes.{fields_more}
use Rattle.hg_transcript.proofs.values.add_numbers.Goals as goal
use mir.Val.{SFits}
use mir.Syntax.{w64}
use Rattle.std.proofs.lemmas.Int.{to_z-of_z}

pub loop-n-preserved : goal.loop-n-preserved
loop-n-preserved c =
    let value = get_or c.args.numbers.now c.loop-n.n-index (pos 0) in
    let fits : SFits w64 value = search rules in
    let added = c.in_ok-add_value.ensures ∙ ap (λ (v : ℤ). c.loop-n.text.items ++ further_bytes (signed_decimal v)) (to_z-of_z w64 value fits) in
    fields_more signed_decimal c.args.text.now.items c.loop-n.text.items c.add_value.new.text.items c.args.numbers.now c.loop-n.n-index (pos 0) c.loop-n-test.true c.loop-n.invariant added
