use Rattle.std.proofs.Common.{◌≡◌, map}
use Rattle.std.specs.List.{flat_map}
use Rattle.hg_base.specs.Lists.{Each, numbers_from}
use Rattle.hg_base.specs.Transcript.{of_session}
use Rattle.hg_known.specs.Sequenced.{IsIndex, record_at}
use Rattle.hg_known.proofs.sequence.by_session.Given as goal

abbrev pub invariant-loop-j : goal.invariant-loop-j
invariant-loop-j l = record {
  records : map (record_at l.script) l.indices.items ≡ flat_map (λ j. of_session j l.script.records) (numbers_from 1 l.j);
  indices : Each (IsIndex l.script) l.indices.items;
}
