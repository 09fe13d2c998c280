use Rattle.std.proofs.Common.{◌≡◌, length, map, take}
use Rattle.hg_base.specs.declared.value.Value.TheVariants.{Number}
use Rattle.hg_report.specs.Fields.{fields_of, values_in}
use Rattle.hg_report.proofs.values.numbers_in.Given as goal

abbrev pub invariant-loop-k : goal.invariant-loop-k
invariant-loop-k l = record { size : length l.values ≡ 8; same : map Number (take l.k l.values) ≡ values_in (fields_of l.row) l.i (take l.k l.kinds) }
