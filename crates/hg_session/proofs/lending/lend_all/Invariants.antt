use Rattle.std.proofs.Common.{◌≡◌, length}
use Rattle.hg_rule.specs.Seats.{session_view, IsSessionOf}
use Rattle.hg_session.specs.Engines.{engine_board_id, engine_sizes}
use Rattle.hg_session.proofs.Handovers.{ArePartlyLent}
use Rattle.hg_session.proofs.lending.lend_all.Given as goal

abbrev pub invariant-loop-k : goal.invariant-loop-k
invariant-loop-k l = record {
  lent : ArePartlyLent l.engine (session_view l.fn.holder) l.initial.list l.list (session_view l.holder) l.k;
  end : l.k-end ≡ length l.initial.list;
  own : IsSessionOf (engine_board_id l.engine) (engine_sizes l.engine) l.holder;
}
