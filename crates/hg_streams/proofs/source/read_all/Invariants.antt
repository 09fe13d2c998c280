use Rattle.std.proofs.Common.{◌+◌, ◌-◌, ◌≤◌, length}
use Rattle.hg_streams.specs.Streams.{Gave, change_of}
use Rattle.hg_streams.proofs.source.read_all.Given as goal

abbrev pub invariant-loop-chunk : goal.invariant-loop-chunk
invariant-loop-chunk g l = record {
  within : length l.bytes.items ≤ l.most + 1;
  gave : Gave (change_of g.S.Source.flow l.initial.source l.source) l.bytes.items;
  later : (g.S.Source.flow l.initial.source).faults ≤ (g.S.Source.flow l.source).faults;
}

abbrev pub decreases-loop-chunk : goal.decreases-loop-chunk
decreases-loop-chunk g l = l.most + 1 - length l.bytes.items
