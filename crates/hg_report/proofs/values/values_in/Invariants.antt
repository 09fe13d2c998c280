use Rattle.std.proofs.Common.{◌≡◌, length, take}
use Rattle.hg_report.specs.Fields.{fields_of, values_in}
use Rattle.hg_report.proofs.values.values_in.Given as goal

abbrev pub invariant-loop-k : goal.invariant-loop-k
invariant-loop-k l = record { many : length l.values.items ≡ l.k; same : l.values.items ≡ values_in (fields_of l.row) l.i (take l.k l.kinds) }
