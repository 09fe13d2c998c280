use Rattle.std.specs.Prelude.{◌≡◌, ◌-◌, ◌≤◌, ◌^◌, ◌++◌, length, take, drop, reverse}
use Rattle.hg_base.specs.declared.report.Kind.TheVariants.{Group}
use Rattle.hg_rule.specs.Views.{pass as own_pass}
use Rattle.hg_rule.specs.Seats.{board_id, sizes_of, pass_view, IsPassOf}
use Rattle.hg_core.specs.Counters.{removed_all}
use Rattle.hg_collectors.specs.Cutting.{CutsAll, stretches, visited}
use Rattle.hg_collectors.proofs.cuts.cut_all.Given as goal

abbrev pub invariant-loop-done : goal.invariant-loop-done
invariant-loop-done g l = record {
  cuts : CutsAll (sizes_of l.board).buckets l.bound (pass_view l.fn.pass) (take l.done l.rids) l.gone (pass_view l.pass);
  left : reverse (stretches (sizes_of l.board).buckets (drop l.done l.rids)) ++ visited (pass_view l.pass) ≡
      reverse (stretches (sizes_of l.board).buckets l.rids) ++ visited (pass_view l.fn.pass);
  within : l.done ≤ length l.rids;
  few : removed_all Group (own_pass (pass_view l.pass)).visits ≤ 2 ^ 41;
  own : IsPassOf (board_id l.board) l.pass;
}

-- the records that are left
abbrev pub decreases-loop-done : goal.decreases-loop-done
decreases-loop-done g l = length l.rids - l.done
