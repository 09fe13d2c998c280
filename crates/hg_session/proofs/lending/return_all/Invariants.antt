use Rattle.std.proofs.Common.{◌≡◌, length}
use Rattle.hg_rule.specs.Seats.{session_view, IsSessionOf}
use Rattle.hg_session.specs.Engines.{engine_board_id, engine_sizes}
use Rattle.hg_session.proofs.Handovers.{ArePartlyBack}
use Rattle.hg_session.proofs.lending.return_all.Given as goal

abbrev pub invariant-loop-k : goal.invariant-loop-k
invariant-loop-k l = record {
  back : ArePartlyBack l.engine (session_view l.fn.holder) l.initial.list l.list (session_view l.holder) l.k;
  end : l.k-end ≡ length l.initial.list;
  own : IsSessionOf (engine_board_id l.engine) (engine_sizes l.engine) l.holder;
}
