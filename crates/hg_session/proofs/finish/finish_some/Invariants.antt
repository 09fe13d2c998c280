use Rattle.std.proofs.Common.{◌≡◌, ◌++◌}
use Rattle.hg_rule.specs.Seats.{pass_view, IsPassOf}
use Rattle.hg_session.specs.Engines.{engine_board_id}
use Rattle.hg_session.specs.Finished.{HaveGone}
use Rattle.hg_session.proofs.finish.finish_some.Given as goal

abbrev pub invariant-loop-session : goal.invariant-loop-session
invariant-loop-session l = record {
  own : IsPassOf (engine_board_id l.fn.engine) l.pass;
  went : HaveGone l.yielded (pass_view l.fn.pass) (pass_view l.pass);
  sessions : l.fn.sessions.items ≡ l.yielded ++ l.session-iterator.rest.items;
}
