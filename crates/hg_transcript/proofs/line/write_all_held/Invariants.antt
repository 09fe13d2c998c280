use Rattle.std.proofs.Common.{◌≡◌, ◌++◌, map, take}
use Rattle.std.specs.List.{flat_map}
use Rattle.hg_base.specs.Text.{of_line, held_fields}
use Rattle.hg_records.specs.Bytes.{record_bytes}
use Rattle.hg_transcript.proofs.line.write_all_held.Given as goal

abbrev pub invariant-loop-told : goal.invariant-loop-told
invariant-loop-told l = l.text.items ≡ l.initial.text.items ++ flat_map record_bytes (map (of_line l.line) (map held_fields (take l.told-index l.held)))
