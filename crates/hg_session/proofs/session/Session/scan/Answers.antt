use Rattle.std.proofs.Common.{Some, None, Ok}
use Rattle.hg_base.specs.declared.statement.Statement.TheVariants as say
use Rattle.hg_session.specs.declared.answers.GetRefusal.TheVariants as refusal
use Rattle.hg_session.specs.Engines.{engine_sizes}
use Rattle.hg_session.specs.Refused.{LeavesLooks}
use Rattle.hg_session.specs.Replies.{Answers, IsRefusedIf, IsAtOwn, scan_at, scan_reply}
use Rattle.hg_session.specs.Sessions.{view_of}
use Rattle.hg_session.proofs.Spending.{opened_now, replies, by_opened, spends, spends_alone}
use Rattle.hg_session.proofs.session.Session.scan.Goals as goal

pub scan_inside-requires-clause-own : goal.scan_inside-requires-clause-own
scan_inside-requires-clause-own g c = c.spend.ensures.may c.args.engine.now c.requires.own c.requires.cursor

pub scan_alone-requires-clause-own : goal.scan_alone-requires-clause-own
scan_alone-requires-clause-own g c = c.spend.ensures.may c.args.engine.now c.requires.own c.requires.cursor

pub returns-in-Some-clause-reply : goal.returns-in-Some-clause-reply
returns-in-Some-clause-reply g c =
    let is = opened_now c.args.engine.now c.args.self.now c.spend.new.self (Some c.in-Some.snapshot) c.requires.own c.spend.ensures.kept.1 c.in-Some.is in
    replies c.args.self.now c.spend.new.self (Some c.in-Some.snapshot) is c.spend.ensures.kept.0
    scan_reply c.scan_inside.result (λ v r. Answers (engine_sizes c.args.engine.now) v (say.Scan c.args.table c.args.low c.args.high) r (view_of c.scan_inside.new.session))
    c.scan_inside.ensures.reply

pub returns-in-Some-clause-at : goal.returns-in-Some-clause-at
returns-in-Some-clause-at g c =
    let is = opened_now c.args.engine.now c.args.self.now c.spend.new.self (Some c.in-Some.snapshot) c.requires.own c.spend.ensures.kept.1 c.in-Some.is in
    by_opened c.args.self.now c.spend.new.self (Some c.in-Some.snapshot) is c.spend.ensures.kept.0 (λ o v. IsAtOwn o (scan_at c.scan_inside.result)) c.scan_inside.ensures.at

pub returns-in-Some-clause-undeclared : goal.returns-in-Some-clause-undeclared
returns-in-Some-clause-undeclared g c =
    let is = opened_now c.args.engine.now c.args.self.now c.spend.new.self (Some c.in-Some.snapshot) c.requires.own c.spend.ensures.kept.1 c.in-Some.is in
    by_opened c.args.self.now c.spend.new.self (Some c.in-Some.snapshot) is c.spend.ensures.kept.0
    (λ o v. IsRefusedIf o c.args.table c.scan_inside.result (refusal.Undeclared c.args.table)) c.scan_inside.ensures.undeclared

pub returns-in-Some-clause-refused : goal.returns-in-Some-clause-refused
returns-in-Some-clause-refused g c =
    let is = opened_now c.args.engine.now c.args.self.now c.spend.new.self (Some c.in-Some.snapshot) c.requires.own c.spend.ensures.kept.1 c.in-Some.is in
    λ same. by_opened c.args.self.now c.spend.new.self (Some c.in-Some.snapshot) is c.spend.ensures.kept.0
    (λ o v. LeavesLooks o c.args.table c.args.low c.args.high v (view_of c.scan_inside.new.session)) (c.scan_inside.ensures.refused same)

pub returns-in-Some-clause-spent : goal.returns-in-Some-clause-spent
returns-in-Some-clause-spent g c =
    spends c.args.engine.now c.args.self.now c.spend.new.self c.scan_inside.new.session c.requires.own c.spend.ensures.kept.1 c.spend.ensures.left c.spend.ensures.retries
    c.scan_inside.ensures.kept c.scan_inside.ensures.own

pub returns-in_err-scan_alone-in-None-clause-spent : goal.returns-in_err-scan_alone-in-None-clause-spent
returns-in_err-scan_alone-in-None-clause-spent g c =
    spends_alone c.args.engine.now c.args.self.now c.spend.new.self c.scan_alone.new.session c.requires.own c.spend.ensures.kept.1 c.spend.ensures.left c.spend.ensures.retries
    c.in-None.is c.scan_alone.ensures.open c.scan_alone.ensures.kept c.scan_alone.ensures.own

pub returns-in_ok-scan_alone-in-None-clause-spent : goal.returns-in_ok-scan_alone-in-None-clause-spent
returns-in_ok-scan_alone-in-None-clause-spent g c =
    spends_alone c.args.engine.now c.args.self.now c.spend.new.self c.scan_alone.new.session c.requires.own c.spend.ensures.kept.1 c.spend.ensures.left c.spend.ensures.retries
    c.in-None.is c.scan_alone.ensures.open c.scan_alone.ensures.kept c.scan_alone.ensures.own

pub scan_inside-requires-clause-opened : goal.scan_inside-requires-clause-opened
scan_inside-requires-clause-opened g c = c.in-Some.is

pub returns-in_err-scan_alone-in-None-clause-refused : goal.returns-in_err-scan_alone-in-None-clause-refused
returns-in_err-scan_alone-in-None-clause-refused g c =
    let is = opened_now c.args.engine.now c.args.self.now c.spend.new.self None c.requires.own c.spend.ensures.kept.1 c.in-None.is in
    λ same. by_opened c.args.self.now c.spend.new.self None is c.spend.ensures.kept.0 (λ o v. LeavesLooks o c.args.table c.args.low c.args.high v (view_of c.scan_alone.new.session)) c.in_err-scan_alone-in-None.ensures.refused

pub returns-in_ok-scan_alone-in-None-clause-reply : goal.returns-in_ok-scan_alone-in-None-clause-reply
returns-in_ok-scan_alone-in-None-clause-reply g c =
    let is = opened_now c.args.engine.now c.args.self.now c.spend.new.self None c.requires.own c.spend.ensures.kept.1 c.in-None.is in
    replies c.args.self.now c.spend.new.self None is c.spend.ensures.kept.0 scan_reply (Ok c.in_ok-scan_alone-in-None.field-0)
    (λ v r. Answers (engine_sizes c.args.engine.now) v (say.Scan c.args.table c.args.low c.args.high) r (view_of c.scan_alone.new.session)) c.in_ok-scan_alone-in-None.ensures.reply

pub returns-in_ok-scan_alone-in-None-clause-at : goal.returns-in_ok-scan_alone-in-None-clause-at
returns-in_ok-scan_alone-in-None-clause-at g c =
    let is = opened_now c.args.engine.now c.args.self.now c.spend.new.self None c.requires.own c.spend.ensures.kept.1 c.in-None.is in
    by_opened c.args.self.now c.spend.new.self None is c.spend.ensures.kept.0 (λ o v. IsAtOwn o (Some c.in_ok-scan_alone-in-None.field-0.at)) tt

pub returns-in_ok-scan_alone-in-None-clause-refused : goal.returns-in_ok-scan_alone-in-None-clause-refused
returns-in_ok-scan_alone-in-None-clause-refused g c = λ same. absurd (let k = same in cc)
