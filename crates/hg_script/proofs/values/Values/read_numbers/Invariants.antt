use Rattle.std.proofs.Common.{◌≡◌, ◌+◌, drop, take, length}
use Rattle.csv.specs.Records.{fields_of}
use Rattle.hg_script.specs.Draft.{numbers_in}
use Rattle.hg_script.proofs.Taken.{taken}
use Rattle.hg_script.proofs.values.Values.read_numbers.Given as goal

abbrev pub invariant-loop-i : goal.invariant-loop-i
invariant-loop-i l = record {
  room : length l.row_values ≡ 8;
  values : taken l.over (take l.i l.row_values) (numbers_in (drop (4 + l.i) (fields_of l.row))) ≡ numbers_in (drop 4 (fields_of l.row));
}
