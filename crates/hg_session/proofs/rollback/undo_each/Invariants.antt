use Rattle.std.proofs.Common.{◌≡◌, ◌++◌, List, length}
use Rattle.hg_base.specs.declared.rid.Rid.{Rid}
use Rattle.hg_rule.specs.Seats.{session_view, IsSessionOf}
use Rattle.hg_session.specs.Engines.{engine_board_id, engine_sizes}
use Rattle.hg_session.specs.Gains.{HasUndone}
use Rattle.hg_session.proofs.rollback.undo_each.Given as goal

abbrev pub invariant-loop-rid : goal.invariant-loop-rid
invariant-loop-rid g l = record {
  gone : List Rid;
  all : l.fn.records.list ≡ l.records.list ++ gone;
  undone : HasUndone (session_view l.fn.pass) gone (session_view l.pass);
  own : IsSessionOf (engine_board_id l.engine) (engine_sizes l.engine) l.pass;
}

abbrev pub decreases-loop-rid : goal.decreases-loop-rid
decreases-loop-rid g l = length l.records.list
