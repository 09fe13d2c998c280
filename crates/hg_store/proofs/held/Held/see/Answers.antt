use Rattle.std.proofs.Common.{rules}
use Rattle.hg_rule.specs.Seats.{session_view}
use Rattle.hg_store.proofs.Stepping.{look_holds}
use Rattle.hg_store.proofs.held.Held.see.Goals as goal

pub returns-clause-holds : goal.returns-clause-holds
returns-clause-holds c =
    (search rules, look_holds (session_view c.args.pass.now) (session_view c.look.new.pass) c.args.self.now _ _ c.requires.holds.1 c.look.ensures.step.looks)
