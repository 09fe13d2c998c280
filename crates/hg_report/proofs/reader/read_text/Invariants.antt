use Rattle.std.proofs.Common.{◌≡◌, ◌≤◌, ◌+◌, ◌++◌, List, length}
use Rattle.std.specs.List.{flat_map}
use Rattle.hg_base.specs.Text.{Field}
use Rattle.hg_records.specs.Bytes.{record_bytes}
use Rattle.hg_report.specs.Progress.{at_start, Runs}
use Rattle.hg_report.proofs.reader.read_text.Given as goal

abbrev pub invariant-loop-line : goal.invariant-loop-line
invariant-loop-line l = record {
  taken : (records : List (List Field)) × Runs l.script at_start records l.progress × (l.fn.bytes ≡ flat_map record_bytes records ++ l.rest) × (1 + length records ≡ l.line);
  many : l.line + length l.rest ≤ 1 + length l.fn.bytes;
}
