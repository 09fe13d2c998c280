use Rattle.std.proofs.Common.{◌≡◌, ◌≤◌, false, length}
use Rattle.std.specs.Prelude.{vec_capacity}
use Rattle.hg_collectors.specs.Lent.{lent_sizes}
use Rattle.hg_collectors.specs.Rounding.{IsRoundBy, AreRounds}
use Rattle.hg_collectors.proofs.round_list.make_rounds.Given as goal

abbrev pub invariant-loop-round : goal.invariant-loop-round
invariant-loop-round g l = record {
  own : g.C.Worker.is_of l.lent l.collector;
  made : AreRounds (IsRoundBy g.C.Worker.kind (lent_sizes l.lent) l.plan.long) (g.C.Worker.view_of l.fn.collector) l.told.sweeps.items (g.C.Worker.view_of l.collector);
  count : length l.told.sweeps.items ≡ l.round;
  room : l.fn.plan.rounds ≤ vec_capacity l.told.sweeps;
  willing : l.told.refused ≡ false;
}
