use Rattle.hg_rule.specs.Seats.{session_view}
use Rattle.hg_tracker.proofs.After.{begins_all}
use Rattle.hg_tracker.proofs.trackers.Trackers.begin.Goals as goal

pub returns-clause-begun : goal.returns-clause-begun
returns-clause-begun c = begins_all (session_view c.args.pass.now) (session_view c.declare.new.pass) (session_view c.probe-from.new.pass) (session_view c.enter.new.pass)
    (session_view c.fix-at.new.pass) (session_view c.go_live.new.pass) _ _ _
    c.declare.ensures.step c.probe-from.ensures.step c.enter.ensures.step c.fix-at.ensures.step c.go_live.ensures.step
