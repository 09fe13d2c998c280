use Rattle.std.proofs.Common.{◌≡◌, ◌+◌, drop, length}
use Rattle.csv.specs.Records.{fields_of}
use Rattle.hg_script.specs.Draft.{row_in}
use Rattle.hg_script.proofs.Typed.{onto}
use Rattle.hg_script.proofs.values.Values.read_mixed.Given as goal

abbrev pub invariant-loop-i : goal.invariant-loop-i
invariant-loop-i l = record {
  many : length l.values.items ≡ l.i;
  values : onto l.values.items (row_in (drop l.i l.kinds) (drop (4 + l.i) (fields_of l.row))) ≡ row_in l.kinds (drop 4 (fields_of l.row));
}
