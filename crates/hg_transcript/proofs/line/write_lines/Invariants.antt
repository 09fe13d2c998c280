use Rattle.std.proofs.Common.{◌≡◌, ◌++◌, take}
use Rattle.std.specs.List.{flat_map}
use Rattle.hg_base.specs.Text.{line_records}
use Rattle.hg_records.specs.Bytes.{record_bytes}
use Rattle.hg_transcript.proofs.line.write_lines.Given as goal

abbrev pub invariant-loop-line : goal.invariant-loop-line
invariant-loop-line l = l.text.items ≡ l.initial.text.items ++ flat_map record_bytes (flat_map (line_records l.tables) (take l.line-index l.lines))
