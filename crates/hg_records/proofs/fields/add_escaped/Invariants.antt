use Rattle.std.proofs.Common.{◌≡◌, ◌++◌, take}
use Rattle.csv.specs.Writing.{escaped}
use Rattle.hg_records.specs.Bytes.{flexible_writer}
use Rattle.hg_records.proofs.fields.add_escaped.Given as goal

abbrev pub invariant-loop-b : goal.invariant-loop-b
invariant-loop-b l = l.text.items ≡ l.initial.text.items ++ escaped flexible_writer (take l.b-index l.field)
