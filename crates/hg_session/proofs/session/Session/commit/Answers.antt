use Rattle.std.proofs.Common.{◌≡◌, Some, sym, ◌∙◌}
use Rattle.std.specs.Prelude.{is_some, IfSome}
use Rattle.hg_base.specs.Replies.{is_written}
use Rattle.hg_core.specs.Logs.{current, own_writes}
use Rattle.hg_core.specs.Reading.{close}
use Rattle.hg_rule.specs.Views.{session}
use Rattle.hg_session.specs.Engines.{engine_sizes}
use Rattle.hg_session.specs.Sessions.{view_of}
use Rattle.hg_session.specs.Gains.{Gains, IsAfter, receipt_number}
use Rattle.hg_session.proofs.Putting.{is_number, commit_inside}
use Rattle.hg_session.proofs.Cursors.{between}
use Rattle.hg_session.proofs.session.Session.commit.Goals as goal

pub returns-in-Ok-clause-answers : goal.returns-in-Ok-clause-answers
returns-in-Ok-clause-answers g c =
    let v = view_of c.args.self.now in
    let w = view_of c.commit_open.new.session in
    let r = c.in-Ok.receipt in
    let opened : current (session v).log ≡ Some c.in-Some.snapshot = c.requires.own.ties.opens ∙ c.in-Some.is in
    let gains : Gains v (close (receipt_number r)) w = c.in-Ok.ensures.gains in
    let wrote : is_some r ≡ is_written (own_writes (session v).log) = c.in-Ok.ensures.wrote in
    let after : IfSome (receipt_number r) (IsAfter v.sights c.in-Some.snapshot.at) = c.in-Ok.ensures.after in
    commit_inside (engine_sizes c.args.engine.now) v w c.in-Some.snapshot c.in-Some.snapshot.at (receipt_number r) opened gains (is_number r ∙ wrote) after

pub commit_open-requires-clause-own : goal.commit_open-requires-clause-own
commit_open-requires-clause-own g c =
    let own = c.requires.own in
    record { pass = own.pass; only = own.only; ties = own.ties; heard = own.heard; closed = c.requires.cursor }

pub returns-in-Ok-clause-placed : goal.returns-in-Ok-clause-placed
returns-in-Ok-clause-placed g c = c.in-Ok.ensures.placed

pub returns-in-Ok-clause-stays : goal.returns-in-Ok-clause-stays
returns-in-Ok-clause-stays g c = (between c.args.engine.now c.commit_open.new.session c.in-Ok.ensures.own, c.in-Ok.ensures.own.closed, c.in-Ok.ensures.kept.0)

pub returns-in-Err-clause-refused : goal.returns-in-Err-clause-refused
returns-in-Err-clause-refused g c = (
  c.in-Err.ensures.refused.0,
  c.in-Err.ensures.own.ties.opens ∙ (c.in-Err.ensures.refused.1 ∙ sym c.requires.own.ties.opens),
)

pub returns-in-Err-clause-stays : goal.returns-in-Err-clause-stays
returns-in-Err-clause-stays g c =
    let own = c.in-Err.ensures.own in
    (between c.args.engine.now _ (record { pass = own.pass; only = own.only; ties = own.ties; heard = own.heard; closed = own.closed }), own.closed, c.in-Err.ensures.kept.0)

pub returns-in-Ok-clause-over : goal.returns-in-Ok-clause-over
returns-in-Ok-clause-over g c = c.in-Ok.ensures.own.ties.opens ∙ c.in-Ok.ensures.closed
