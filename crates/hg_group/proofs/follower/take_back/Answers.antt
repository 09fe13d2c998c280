use Rattle.std.proofs.Common.{subst}
use Rattle.hg_rule.specs.Views.{session}
use Rattle.hg_rule.specs.Seats.{session_view, tx_view}
use Rattle.hg_group.specs.Batch.{IsOutcome}
use Rattle.hg_group.proofs.Returning.{finished, refused}
use Rattle.hg_group.proofs.follower.take_back.Goals as goal

pub returns-in-Committed-clause-finished : goal.returns-in-Committed-clause-finished
returns-in-Committed-clause-finished c =
    let v = session_view c.args.pass.now in
    let w = tx_view c.args.laid.seat in
    finished v (session_view c.resume.new.pass) w c.args.pass.now.number c.requires.own.1.0 c.requires.alone c.requires.may c.resume.ensures.back c.resume.ensures.step
    c.requires.laid.unstamped c.in-Committed.receipt
    (subst (IsOutcome c.args.pass.now.number (session w) w.sights) c.in-Committed.is c.requires.laid.outcome)

pub returns-in-Refused-clause-refused : goal.returns-in-Refused-clause-refused
returns-in-Refused-clause-refused c =
    let v = session_view c.args.pass.now in
    let w = tx_view c.args.laid.seat in
    refused v (session_view c.resume.new.pass) w c.args.pass.now.number c.requires.own.1.0 c.requires.alone c.requires.may c.resume.ensures.back c.resume.ensures.step
    c.requires.laid.unstamped c.in-Refused.tx
    (subst (IsOutcome c.args.pass.now.number (session w) w.sights) c.in-Refused.is c.requires.laid.outcome)
