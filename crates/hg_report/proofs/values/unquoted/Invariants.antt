use Rattle.std.proofs.Common.{◌≡◌, ◌++◌, drop, false}
use Rattle.hg_report.specs.Fields.{unquoted}
use Rattle.hg_report.proofs.values.unquoted.Given as goal

abbrev pub invariant-loop-b : goal.invariant-loop-b
invariant-loop-b l = l.text.items ++ unquoted l.left_out (drop l.b-index l.bytes) ≡ unquoted false l.bytes
