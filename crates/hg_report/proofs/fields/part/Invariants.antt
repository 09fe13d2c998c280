use Rattle.std.proofs.Common.{◌≤◌}
use Rattle.hg_report.specs.Fields.{fields_of}
use Rattle.hg_report.proofs.Parted.{So}
use Rattle.hg_report.proofs.fields.part.Given as goal

abbrev pub invariant-loop-i : goal.invariant-loop-i
invariant-loop-i l = record { start : l.start ≤ l.i; parts : So l.quoted (fields_of l.fields.items) l.bytes l.start l.i }
