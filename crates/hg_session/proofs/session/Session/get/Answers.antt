use Rattle.std.proofs.Common.{Some, None, Ok}
use Rattle.hg_base.specs.declared.statement.Statement.TheVariants as say
use Rattle.hg_session.specs.declared.answers.GetRefusal.TheVariants as refusal
use Rattle.hg_session.specs.Engines.{engine_sizes}
use Rattle.hg_session.specs.Refused.{LeavesLooks}
use Rattle.hg_session.specs.Replies.{Answers, IsRefusedIf, IsAtOwn, get_at, get_reply}
use Rattle.hg_session.specs.Sessions.{view_of}
use Rattle.hg_session.proofs.Spending.{opened_now, replies, by_opened, spends, spends_alone}
use Rattle.hg_session.proofs.session.Session.get.Goals as goal

pub get_inside-requires-clause-own : goal.get_inside-requires-clause-own
get_inside-requires-clause-own g c = c.spend.ensures.may c.args.engine.now c.requires.own c.requires.cursor

pub get_alone-requires-clause-own : goal.get_alone-requires-clause-own
get_alone-requires-clause-own g c = c.spend.ensures.may c.args.engine.now c.requires.own c.requires.cursor

pub returns-in-Some-clause-reply : goal.returns-in-Some-clause-reply
returns-in-Some-clause-reply g c =
    let is = opened_now c.args.engine.now c.args.self.now c.spend.new.self (Some c.in-Some.snapshot) c.requires.own c.spend.ensures.kept.1 c.in-Some.is in
    replies c.args.self.now c.spend.new.self (Some c.in-Some.snapshot) is c.spend.ensures.kept.0
    get_reply c.get_inside.result (λ v r. Answers (engine_sizes c.args.engine.now) v (say.Get c.args.rid) r (view_of c.get_inside.new.session)) c.get_inside.ensures.reply

pub returns-in-Some-clause-at : goal.returns-in-Some-clause-at
returns-in-Some-clause-at g c =
    let is = opened_now c.args.engine.now c.args.self.now c.spend.new.self (Some c.in-Some.snapshot) c.requires.own c.spend.ensures.kept.1 c.in-Some.is in
    by_opened c.args.self.now c.spend.new.self (Some c.in-Some.snapshot) is c.spend.ensures.kept.0 (λ o v. IsAtOwn o (get_at c.get_inside.result)) c.get_inside.ensures.at

pub returns-in-Some-clause-undeclared : goal.returns-in-Some-clause-undeclared
returns-in-Some-clause-undeclared g c =
    let is = opened_now c.args.engine.now c.args.self.now c.spend.new.self (Some c.in-Some.snapshot) c.requires.own c.spend.ensures.kept.1 c.in-Some.is in
    by_opened c.args.self.now c.spend.new.self (Some c.in-Some.snapshot) is c.spend.ensures.kept.0
    (λ o v. IsRefusedIf o c.args.rid.table c.get_inside.result (refusal.Undeclared c.args.rid.table)) c.get_inside.ensures.undeclared

pub returns-in-Some-clause-refused : goal.returns-in-Some-clause-refused
returns-in-Some-clause-refused g c =
    let is = opened_now c.args.engine.now c.args.self.now c.spend.new.self (Some c.in-Some.snapshot) c.requires.own c.spend.ensures.kept.1 c.in-Some.is in
    λ same. by_opened c.args.self.now c.spend.new.self (Some c.in-Some.snapshot) is c.spend.ensures.kept.0
    (λ o v. LeavesLooks o c.args.rid.table c.args.rid.key c.args.rid.key v (view_of c.get_inside.new.session)) (c.get_inside.ensures.refused same)

pub returns-in-Some-clause-spent : goal.returns-in-Some-clause-spent
returns-in-Some-clause-spent g c =
    spends c.args.engine.now c.args.self.now c.spend.new.self c.get_inside.new.session c.requires.own c.spend.ensures.kept.1 c.spend.ensures.left c.spend.ensures.retries
    c.get_inside.ensures.kept c.get_inside.ensures.own

pub returns-in_err-get_alone-in-None-clause-spent : goal.returns-in_err-get_alone-in-None-clause-spent
returns-in_err-get_alone-in-None-clause-spent g c =
    spends_alone c.args.engine.now c.args.self.now c.spend.new.self c.get_alone.new.session c.requires.own c.spend.ensures.kept.1 c.spend.ensures.left c.spend.ensures.retries
    c.in-None.is c.get_alone.ensures.open c.get_alone.ensures.kept c.get_alone.ensures.own

pub returns-in_ok-get_alone-in-None-clause-spent : goal.returns-in_ok-get_alone-in-None-clause-spent
returns-in_ok-get_alone-in-None-clause-spent g c =
    spends_alone c.args.engine.now c.args.self.now c.spend.new.self c.get_alone.new.session c.requires.own c.spend.ensures.kept.1 c.spend.ensures.left c.spend.ensures.retries
    c.in-None.is c.get_alone.ensures.open c.get_alone.ensures.kept c.get_alone.ensures.own

pub get_inside-requires-clause-opened : goal.get_inside-requires-clause-opened
get_inside-requires-clause-opened g c = c.in-Some.is

pub returns-in_err-get_alone-in-None-clause-refused : goal.returns-in_err-get_alone-in-None-clause-refused
returns-in_err-get_alone-in-None-clause-refused g c =
    let is = opened_now c.args.engine.now c.args.self.now c.spend.new.self None c.requires.own c.spend.ensures.kept.1 c.in-None.is in
    λ same. by_opened c.args.self.now c.spend.new.self None is c.spend.ensures.kept.0 (λ o v. LeavesLooks o c.args.rid.table c.args.rid.key c.args.rid.key v (view_of c.get_alone.new.session)) c.in_err-get_alone-in-None.ensures.refused

pub returns-in_ok-get_alone-in-None-clause-reply : goal.returns-in_ok-get_alone-in-None-clause-reply
returns-in_ok-get_alone-in-None-clause-reply g c =
    let is = opened_now c.args.engine.now c.args.self.now c.spend.new.self None c.requires.own c.spend.ensures.kept.1 c.in-None.is in
    replies c.args.self.now c.spend.new.self None is c.spend.ensures.kept.0 get_reply (Ok c.in_ok-get_alone-in-None.field-0)
    (λ v r. Answers (engine_sizes c.args.engine.now) v (say.Get c.args.rid) r (view_of c.get_alone.new.session)) c.in_ok-get_alone-in-None.ensures.reply

pub returns-in_ok-get_alone-in-None-clause-at : goal.returns-in_ok-get_alone-in-None-clause-at
returns-in_ok-get_alone-in-None-clause-at g c =
    let is = opened_now c.args.engine.now c.args.self.now c.spend.new.self None c.requires.own c.spend.ensures.kept.1 c.in-None.is in
    by_opened c.args.self.now c.spend.new.self None is c.spend.ensures.kept.0 (λ o v. IsAtOwn o (Some c.in_ok-get_alone-in-None.field-0.at)) tt

pub returns-in_ok-get_alone-in-None-clause-refused : goal.returns-in_ok-get_alone-in-None-clause-refused
returns-in_ok-get_alone-in-None-clause-refused g c = λ same. absurd (let k = same in cc)
