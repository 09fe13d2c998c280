use Rattle.std.proofs.Common.{◌≡◌, ◌++◌, map, take}
use Rattle.std.specs.List.{flat_map}
use Rattle.hg_records.specs.Bytes.{record_bytes}
use Rattle.hg_dump.specs.Records.{put_fields}
use Rattle.hg_dump.specs.Rows.{kept_in}
use Rattle.hg_dump.proofs.puts.write_puts.Given as goal

abbrev pub invariant-loop-key : goal.invariant-loop-key
invariant-loop-key l = l.text.items ≡ l.initial.text.items ++ flat_map record_bytes (map (put_fields l.tables) (kept_in l.fn.table (take l.key-index l.rows)))
