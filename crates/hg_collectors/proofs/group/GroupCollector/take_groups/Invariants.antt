use Rattle.std.proofs.Common.{◌≡◌, ◌≤◌, ◌^◌, ◌-◌, vec_capacity}
use Rattle.hg_base.specs.declared.report.Kind.TheVariants.{Group}
use Rattle.hg_rule.specs.Views.{pass as own_pass}
use Rattle.hg_rule.specs.Rounds.{seen_taken}
use Rattle.hg_rule.specs.Seats.{board_id, sizes_of, pass_view, IsPassOf}
use Rattle.hg_core.specs.Counters.{removed_all}
use Rattle.hg_collectors.specs.Taking.{TakesGroups}
use Rattle.hg_collectors.proofs.group.GroupCollector.take_groups.Given as goal

abbrev pub invariant-loop-last : goal.invariant-loop-last
invariant-loop-last g l = record {
  takes : TakesGroups (sizes_of l.board).buckets l.bound (pass_view l.fn.self.rounds.pass) l.gone (pass_view l.pass);
  few : removed_all Group (own_pass (pass_view l.pass)).visits ≤ 2 ^ 41;
  own : IsPassOf (board_id l.board) l.pass;
  room : vec_capacity l.rids ≡ vec_capacity l.fn.self.rids;
}

-- the groups that are left below the bound
abbrev pub decreases-loop-last : goal.decreases-loop-last
decreases-loop-last g l = l.bound - seen_taken (pass_view l.pass).sights
