use Rattle.std.proofs.Common.{◌≡◌, ◌∷◌, length, rules}
use Rattle.hg_rule.specs.Seats.{pass_view}
use Rattle.hg_session.proofs.Bringing.{one_finishes, closed_here, one_less, none_left, all_finish}
use Rattle.hg_session.proofs.finish.finish_some.Goals as goal

pub finish-requires-clause-own : goal.finish-requires-clause-own
finish-requires-clause-own c =
    let i = c.loop-session.invariant in
    let next : c.loop-session.session-iterator.rest.items ≡ c.in-Some.session ∷ c.next.new.self.rest.items = search rules in
    ((closed_here c.args.engine.now c.args.sessions.items c.loop-session.yielded _ _ c.in-Some.session i.sessions next c.requires.sessions).own, i.own)

pub finish-requires-clause-closed : goal.finish-requires-clause-closed
finish-requires-clause-closed c =
    let i = c.loop-session.invariant in
    let next : c.loop-session.session-iterator.rest.items ≡ c.in-Some.session ∷ c.next.new.self.rest.items = search rules in
    (closed_here c.args.engine.now c.args.sessions.items c.loop-session.yielded _ _ c.in-Some.session i.sessions next c.requires.sessions).closed

pub loop-session-preserved : goal.loop-session-preserved
loop-session-preserved c =
    let i = c.loop-session.invariant in
    let next : c.loop-session.session-iterator.rest.items ≡ c.in-Some.session ∷ c.next.new.self.rest.items = search rules in
    record {
      own = c.finish.ensures.own;
      went = one_finishes (pass_view c.args.pass.now) (pass_view c.loop-session.pass) (pass_view c.finish.new.pass) c.loop-session.yielded c.in-Some.session i.went c.finish.ensures.view;
      sessions = one_less c.args.sessions.items c.loop-session.yielded _ _ c.in-Some.session i.sessions next;
    }

pub returns-clause-went : goal.returns-clause-went
returns-clause-went c =
    let i = c.loop-session.invariant in
    let none : length c.loop-session.session-iterator.rest.items ≡ 0 = search rules in
    all_finish (pass_view c.args.pass.now) (pass_view c.loop-session.pass) c.args.sessions.items c.loop-session.yielded _ i.sessions (none_left _ none) i.went
