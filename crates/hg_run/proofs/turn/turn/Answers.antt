use Rattle.std.proofs.Common.{◌≡◌, get_or, subst, rules}
use Rattle.hg_run.specs.Listed.{SawAt}
use Rattle.hg_rule.specs.Facts.{IsAmong}
use Rattle.hg_session.specs.Sessions.{view_of}
use Rattle.hg_run.proofs.Caught.{own_met, sees_met}
use Rattle.hg_run.proofs.Turns.{cursors_met, logs_met, ready_turned, saw_turned}
use Rattle.hg_run.proofs.turn.turn.Goals as goal

pub returns-then-i-last-clause-logs : goal.returns-then-i-last-clause-logs
returns-then-i-last-clause-logs c = logs_met c.args.engine.now c.args.i c.args.last c.args.list.now.items c.meet_two.new.list.items c.requires.within c.meet_two.ensures.met

pub returns-then-i-last-clause-cursors : goal.returns-then-i-last-clause-cursors
returns-then-i-last-clause-cursors c = cursors_met c.args.engine.now c.args.i c.args.last c.args.list.now.items c.meet_two.new.list.items c.meet_two.ensures.met

pub returns-then-i-last-clause-ready : goal.returns-then-i-last-clause-ready
returns-then-i-last-clause-ready c = λ left r. ready_turned c.args.engine.now c.args.i c.args.last left c.args.list.now.items c.meet_two.new.list.items c.requires.within c.meet_two.ensures.met r

pub returns-then-i-last-clause-saw : goal.returns-then-i-last-clause-saw
returns-then-i-last-clause-saw c = λ seen saw. saw_turned c.args.engine.now c.args.i c.args.last seen c.args.list.now.items c.meet_two.new.list.items c.meet_two.ensures.met saw

pub returns-else-i-last-clause-saw : goal.returns-else-i-last-clause-saw
returns-else-i-last-clause-saw c = λ seen saw. subst (λ k. SawAt seen k c.args.list.now.items) same saw
  where
    same : c.args.last ≡ c.args.i
    same = search rules

pub returns-then-i-last-clause-sees : goal.returns-then-i-last-clause-sees
returns-then-i-last-clause-sees c = sees_met c.args.engine.now c.args.i c.args.last c.args.list.now.items c.meet_two.new.list.items c.meet_two.ensures.met

pub returns-then-i-last-clause-own : goal.returns-then-i-last-clause-own
returns-then-i-last-clause-own c apart = own_met c.args.engine.now c.args.i c.args.last c.args.list.now.items c.meet_two.new.list.items c.requires.within
    (λ d. c.requires.ready.placed d c.args.i c.requires.within) c.meet_two.ensures.met c.meet_two.ensures.backed

pub returns-else-i-last-clause-sees : goal.returns-else-i-last-clause-sees
returns-else-i-last-clause-sees c = λ d x there. subst (λ k. IsAmong x (view_of (get_or c.args.list.now.items k d)).sights) same there
  where
    same : c.args.last ≡ c.args.i
    same = search rules

pub returns-else-i-last-clause-own : goal.returns-else-i-last-clause-own
returns-else-i-last-clause-own c apart = absurd (apart same)
  where
    same : c.args.i ≡ c.args.last
    same = search rules
