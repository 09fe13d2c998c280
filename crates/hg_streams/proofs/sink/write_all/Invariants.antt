use Rattle.std.proofs.Common.{length, ◌-◌, ◌≤◌, take}
use Rattle.hg_streams.specs.Streams.{Took, change_of}
use Rattle.hg_streams.proofs.sink.write_all.Given as goal

abbrev pub invariant-loop-at : goal.invariant-loop-at
invariant-loop-at g l = record {
  within : l.at ≤ length l.text;
  taken : Took (change_of g.S.Sink.flow l.initial.sink l.sink) (take l.at l.text);
  later : (g.S.Sink.flow l.initial.sink).faults ≤ (g.S.Sink.flow l.sink).faults;
}

abbrev pub decreases-loop-at : goal.decreases-loop-at
decreases-loop-at g l = length l.text - l.at
