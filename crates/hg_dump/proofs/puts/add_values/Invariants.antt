use Rattle.std.proofs.Common.{◌≡◌, ◌++◌, map, take}
use Rattle.std.specs.List.{flat_map}
use Rattle.hg_base.specs.Text.{value_field}
use Rattle.hg_records.specs.Bytes.{further_bytes}
use Rattle.hg_dump.proofs.puts.add_values.Given as goal

abbrev pub invariant-loop-i : goal.invariant-loop-i
invariant-loop-i l = l.text.items ≡ l.initial.text.items ++ flat_map further_bytes (map value_field (take l.i l.row))
