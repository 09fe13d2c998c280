use Rattle.std.proofs.Common.{Some, None}
use Rattle.hg_base.specs.declared.statement.Statement.TheVariants as say
use Rattle.hg_base.specs.History.{nothing}
use Rattle.hg_session.specs.declared.answers.PutRefusal.TheVariants as refusal
use Rattle.hg_session.specs.Engines.{engine_sizes}
use Rattle.hg_session.specs.Firsts.{AnswersWrite}
use Rattle.hg_session.specs.Refused.{LeavesNoWrite}
use Rattle.hg_session.specs.Replies.{IsRefusedIf, IsAtOwn, del_at, del_reply}
use Rattle.hg_session.specs.Sessions.{view_of}
use Rattle.hg_session.proofs.Spending.{opened_now, replies, by_opened, spends, spends_alone}
use Rattle.hg_session.proofs.session.Session.del.Goals as goal

pub del_inside-requires-clause-own : goal.del_inside-requires-clause-own
del_inside-requires-clause-own g c = c.spend.ensures.may c.args.engine.now c.requires.own c.requires.cursor

pub del_alone-requires-clause-own : goal.del_alone-requires-clause-own
del_alone-requires-clause-own g c = c.spend.ensures.may c.args.engine.now c.requires.own c.requires.cursor

pub returns-in-Some-clause-reply : goal.returns-in-Some-clause-reply
returns-in-Some-clause-reply g c =
    let is = opened_now c.args.engine.now c.args.self.now c.spend.new.self (Some c.in-Some.snapshot) c.requires.own c.spend.ensures.kept.1 c.in-Some.is in
    replies c.args.self.now c.spend.new.self (Some c.in-Some.snapshot) is c.spend.ensures.kept.0
    del_reply c.del_inside.result (λ v r. AnswersWrite (engine_sizes c.args.engine.now) v (say.Del c.args.rid) c.args.rid r (view_of c.del_inside.new.session)) c.del_inside.ensures.reply

pub returns-in-Some-clause-at : goal.returns-in-Some-clause-at
returns-in-Some-clause-at g c =
    let is = opened_now c.args.engine.now c.args.self.now c.spend.new.self (Some c.in-Some.snapshot) c.requires.own c.spend.ensures.kept.1 c.in-Some.is in
    by_opened c.args.self.now c.spend.new.self (Some c.in-Some.snapshot) is c.spend.ensures.kept.0 (λ o v. IsAtOwn o (del_at c.del_inside.result)) c.del_inside.ensures.at

pub returns-in-Some-clause-undeclared : goal.returns-in-Some-clause-undeclared
returns-in-Some-clause-undeclared g c =
    let is = opened_now c.args.engine.now c.args.self.now c.spend.new.self (Some c.in-Some.snapshot) c.requires.own c.spend.ensures.kept.1 c.in-Some.is in
    by_opened c.args.self.now c.spend.new.self (Some c.in-Some.snapshot) is c.spend.ensures.kept.0
    (λ o v. IsRefusedIf o c.args.rid.table c.del_inside.result (refusal.Undeclared c.args.rid.table)) c.del_inside.ensures.undeclared

pub returns-in-Some-clause-refused : goal.returns-in-Some-clause-refused
returns-in-Some-clause-refused g c =
    let is = opened_now c.args.engine.now c.args.self.now c.spend.new.self (Some c.in-Some.snapshot) c.requires.own c.spend.ensures.kept.1 c.in-Some.is in
    λ same. by_opened c.args.self.now c.spend.new.self (Some c.in-Some.snapshot) is c.spend.ensures.kept.0
    (λ o v. LeavesNoWrite o c.args.rid nothing v (view_of c.del_inside.new.session)) (c.del_inside.ensures.refused same)

pub returns-in-Some-clause-spent : goal.returns-in-Some-clause-spent
returns-in-Some-clause-spent g c =
    spends c.args.engine.now c.args.self.now c.spend.new.self c.del_inside.new.session c.requires.own c.spend.ensures.kept.1 c.spend.ensures.left c.spend.ensures.retries
    c.del_inside.ensures.kept c.del_inside.ensures.own

pub returns-in-None-clause-reply : goal.returns-in-None-clause-reply
returns-in-None-clause-reply g c =
    let is = opened_now c.args.engine.now c.args.self.now c.spend.new.self None c.requires.own c.spend.ensures.kept.1 c.in-None.is in
    replies c.args.self.now c.spend.new.self None is c.spend.ensures.kept.0
    del_reply c.del_alone.result (λ v r. AnswersWrite (engine_sizes c.args.engine.now) v (say.Del c.args.rid) c.args.rid r (view_of c.del_alone.new.session)) c.del_alone.ensures.reply

pub returns-in-None-clause-at : goal.returns-in-None-clause-at
returns-in-None-clause-at g c =
    let is = opened_now c.args.engine.now c.args.self.now c.spend.new.self None c.requires.own c.spend.ensures.kept.1 c.in-None.is in
    by_opened c.args.self.now c.spend.new.self None is c.spend.ensures.kept.0 (λ o v. IsAtOwn o (del_at c.del_alone.result)) tt

pub returns-in-None-clause-undeclared : goal.returns-in-None-clause-undeclared
returns-in-None-clause-undeclared g c =
    let is = opened_now c.args.engine.now c.args.self.now c.spend.new.self None c.requires.own c.spend.ensures.kept.1 c.in-None.is in
    by_opened c.args.self.now c.spend.new.self None is c.spend.ensures.kept.0
    (λ o v. IsRefusedIf o c.args.rid.table c.del_alone.result (refusal.Undeclared c.args.rid.table)) (c.del_alone.ensures.declared c.args.rid.table)

pub returns-in-None-clause-refused : goal.returns-in-None-clause-refused
returns-in-None-clause-refused g c =
    let is = opened_now c.args.engine.now c.args.self.now c.spend.new.self None c.requires.own c.spend.ensures.kept.1 c.in-None.is in
    λ same. by_opened c.args.self.now c.spend.new.self None is c.spend.ensures.kept.0
    (λ o v. LeavesNoWrite o c.args.rid nothing v (view_of c.del_alone.new.session)) (c.del_alone.ensures.refused same)

pub returns-in-None-clause-spent : goal.returns-in-None-clause-spent
returns-in-None-clause-spent g c =
    spends_alone c.args.engine.now c.args.self.now c.spend.new.self c.del_alone.new.session c.requires.own c.spend.ensures.kept.1 c.spend.ensures.left c.spend.ensures.retries
    c.in-None.is c.del_alone.ensures.open c.del_alone.ensures.kept c.del_alone.ensures.own
