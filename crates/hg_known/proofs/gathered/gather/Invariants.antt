use Rattle.std.proofs.Common.{◌≡◌, take}
use Rattle.hg_base.specs.Transcript.{commits}
use Rattle.hg_known.specs.Gathered.{IsGathered}
use Rattle.hg_known.proofs.Walking.{Fine, earlier_at}
use Rattle.hg_known.proofs.gathered.gather.Given as goal

abbrev pub invariant-loop : goal.invariant-loop
invariant-loop l = record {
  reader : l.reader ≡ (l.counter, l.all);
  gathered : IsGathered l.wants l.into (earlier_at l.all l.counter) (commits (take l.counter l.all));
  fine : Fine (commits (take l.counter l.all));
}
