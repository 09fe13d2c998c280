use Rattle.std.proofs.Common.{length, ◌-◌, ◌≤◌, take}
use Rattle.hg_talk.specs.Events.{HasWritten}
use Rattle.hg_talk.proofs.writing.write_all.Given as goal

abbrev pub invariant-loop-at : goal.invariant-loop-at
invariant-loop-at g l = record {
  within : l.at ≤ length l.text;
  later : g.C.Client.faults l.initial.client ≤ g.C.Client.faults l.client;
  wrote : HasWritten (g.C.Client.log l.initial.client) (g.C.Client.log l.client) (take l.at l.text);
}

abbrev pub decreases-loop-at : goal.decreases-loop-at
decreases-loop-at g l = length l.text - l.at
