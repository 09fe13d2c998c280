use Rattle.std.proofs.Common.{◌++◌, ◌∙◌, ℕ, List, ap}
use Rattle.hg_base.specs.declared.value.Value.{Value}
use Rattle.hg_base.specs.Text.{of_line, row_fields}
use Rattle.hg_records.specs.Bytes.{record_bytes}
use Rattle.hg_transcript.specs.Piece.{behind}
use Rattle.hg_transcript.proofs.RecordBytes.{record_more}
use Rattle.hg_transcript.proofs.line.write_rows.Goals as goal

pub loop-key-preserved : goal.loop-key-preserved
loop-key-preserved c =
    let whole = of_line c.args.line.now in
    let front = c.loop-key.text.items in
    let added = c.in_ok-write.ensures
    ∙ (λ i. front ++ record_bytes (behind (c.new-start.ensures.0 i) (c.new-start.ensures.1 i) (row_fields c.loop-key-item.result)))
    ∙ ap (λ (row : ℕ × List Value). front ++ record_bytes (whole (row_fields row))) c.loop-key-item.is in
    record_more whole row_fields c.args.text.now.items front c.write.new.text.items c.args.rows.now c.loop-key.key-index c.loop-key-item.result c.loop-key-test.true c.loop-key.invariant added
