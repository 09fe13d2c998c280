use Rattle.std.proofs.Common.{◌≡◌, ◌++◌, map}
use Rattle.hg_session.specs.Opened.{seated}
use Rattle.hg_session.proofs.session_list.seat_all.Given as goal

abbrev pub invariant-loop-pass : goal.invariant-loop-pass
invariant-loop-pass l = record {
  seated : l.sessions.items ≡ map (seated l.fn.alloc l.fn.quota) l.yielded;
  passes : l.fn.passes.items ≡ l.yielded ++ l.pass-iterator.rest.items;
}
