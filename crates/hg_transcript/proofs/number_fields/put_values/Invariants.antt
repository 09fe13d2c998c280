use Rattle.std.proofs.Common.{◌≡◌, ◌≤◌, ◌+◌, ◌*◌, ◌++◌, length, map, drop}
use Rattle.std.specs.Fmt.{signed_decimal}
use Rattle.std.specs.List.{flat_map}
use Rattle.hg_records.specs.Bytes.{further_bytes}
use Rattle.hg_transcript.proofs.number_fields.put_values.Given as goal

abbrev pub invariant-loop-left : goal.invariant-loop-left
invariant-loop-left l =
    (l.left ≤ length l.values) × (l.start ≤ l.end) × (l.end + 22 * l.left ≤ l.start + 22 * length l.values) × (length l.bytes ≡ length l.initial.bytes)
    × (drop l.start l.bytes ≡ flat_map further_bytes (map signed_decimal (drop l.left l.values)) ++ drop l.end l.initial.bytes)

abbrev pub decreases-loop-left : goal.decreases-loop-left
decreases-loop-left l = l.left
