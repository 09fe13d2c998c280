use Rattle.std.proofs.Common.{◌≡◌, ◌≤◌, false, length}
use Rattle.std.specs.Prelude.{vec_capacity}
use Rattle.hg_base.specs.declared.report.Kind.TheVariants.{Interval}
use Rattle.hg_collectors.specs.Lent.{lent_board_id, lent_sizes}
use Rattle.hg_collectors.specs.Workers.{view_of, IsCollectorOf}
use Rattle.hg_collectors.specs.Rounding.{IsRoundBy, AreRounds}
use Rattle.hg_collectors.proofs.round_list.make_sweeps.Given as goal

abbrev pub invariant-loop-round : goal.invariant-loop-round
invariant-loop-round g l = record {
  own : IsCollectorOf (lent_board_id l.lent) (lent_sizes l.lent) l.collector;
  made : AreRounds (IsRoundBy Interval (lent_sizes l.lent) l.plan.long) (view_of l.fn.collector) l.told.sweeps.items (view_of l.collector);
  count : length l.told.sweeps.items ≡ l.round;
  room : l.fn.plan.rounds ≤ vec_capacity l.told.sweeps;
  willing : l.told.refused ≡ false;
}
