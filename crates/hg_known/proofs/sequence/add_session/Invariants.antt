use Rattle.std.proofs.Common.{◌≡◌, ◌++◌, length, map}
use Rattle.hg_base.specs.Lists.{Each}
use Rattle.hg_base.specs.Transcript.{of_session}
use Rattle.hg_known.specs.Sequenced.{IsIndex, IsRecordOf, record_at}
use Rattle.hg_known.proofs.sequence.add_session.Given as goal

abbrev pub invariant-loop-record : goal.invariant-loop-record
invariant-loop-record l = record {
  records : map (record_at l.script) l.into.items ++ l.list ≡ map (record_at l.script) l.fn.into.items ++ of_session l.session l.script.records;
  each : Each (IsRecordOf l.script) l.list;
  indices : Each (IsIndex l.script) l.fn.into.items → Each (IsIndex l.script) l.into.items;
}

abbrev pub decreases-loop-record : goal.decreases-loop-record
decreases-loop-record l = length l.list
