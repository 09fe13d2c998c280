use Rattle.std.proofs.Common.{◌++◌, ◌∙◌, ap}
use Rattle.std.specs.List.{flat_map}
use Rattle.hg_base.specs.declared.line.Line.{Line}
use Rattle.hg_base.specs.Text.{line_records}
use Rattle.hg_records.specs.Bytes.{record_bytes}
use Rattle.hg_transcript.proofs.RecordBytes.{records_more}
use Rattle.hg_transcript.proofs.line.write_lines.Goals as goal

pub loop-line-preserved : goal.loop-line-preserved
loop-line-preserved c =
    let records = line_records c.args.tables.now in
    let added = c.in_ok-write_line.ensures ∙ ap (λ (line : Line). c.loop-line.text.items ++ flat_map record_bytes (records line)) c.line-item.is in
    records_more records c.args.text.now.items c.loop-line.text.items c.write_line.new.text.items c.args.lines.now c.loop-line.line-index c.line-item.result c.loop-line-test.true
    c.loop-line.invariant added
