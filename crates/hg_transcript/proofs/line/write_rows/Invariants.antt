use Rattle.std.proofs.Common.{◌≡◌, ◌++◌, map, take}
use Rattle.std.specs.List.{flat_map}
use Rattle.hg_base.specs.Text.{of_line, row_fields}
use Rattle.hg_records.specs.Bytes.{record_bytes}
use Rattle.hg_transcript.proofs.line.write_rows.Given as goal

abbrev pub invariant-loop-key : goal.invariant-loop-key
invariant-loop-key l = l.text.items ≡ l.initial.text.items ++ flat_map record_bytes (map (of_line l.line) (map row_fields (take l.key-index l.rows)))
