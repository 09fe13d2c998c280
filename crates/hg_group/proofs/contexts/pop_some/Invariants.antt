use Rattle.std.specs.Prelude.{◌≡◌, ◌++◌, ◌-◌, List, vec_capacity}
use Rattle.hg_rule.specs.Holding.{commit}
use Rattle.hg_rule.specs.Seats.{board_id, pass_view, IsPassOf}
use Rattle.hg_group.specs.declared.contexts.GroupContext.{GroupContext}
use Rattle.hg_group.specs.Contexts.{AreContexts}
use Rattle.hg_group.specs.Oldest.{records_of, PopsNext}
use Rattle.hg_group.proofs.contexts.pop_some.Given as goal

-- the contexts so far, with their records in the list
abbrev pub invariant-loop-context : goal.invariant-loop-context
invariant-loop-context l = record {
  popped : (cs : List GroupContext) × ((l.into.items ≡ l.fn.into.items ++ records_of cs) × PopsNext (pass_view l.fn.pass) l.bound cs (pass_view l.pass));
  contexts : AreContexts (commit (pass_view l.pass)).history.list (commit (pass_view l.pass)).taken l.contexts.items;
  own : IsPassOf (board_id l.board) l.pass;
  same : vec_capacity l.into ≡ vec_capacity l.fn.into;
}

-- the groups that are left below the bound
abbrev pub decreases-loop-context : goal.decreases-loop-context
decreases-loop-context l = l.bound - (commit (pass_view l.pass)).taken
