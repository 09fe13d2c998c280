use Rattle.std.proofs.Common.{◌≡◌, None, ap, subst, rules}
use Rattle.hg_base.specs.declared.statement.Statement.TheVariants as say
use Rattle.hg_base.specs.declared.line.Answer.TheVariants.{Begun}
use Rattle.hg_core.specs.Reading as reading
use Rattle.hg_session.specs.Engines.{engine_sizes}
use Rattle.hg_session.specs.Sessions.{view_of, open_of}
use Rattle.hg_session.specs.Replies.{Answers, inside}
use Rattle.hg_session.proofs.Replying.{nothing_more, answers_inside}
use Rattle.hg_session.proofs.session.Session.begin.Goals as goal

pub returns-clause-answers : goal.returns-clause-answers
returns-clause-answers c =
    let z = engine_sizes c.args.engine.now in
    let v = view_of c.spend.new.self in
    let w = view_of c.open.new.self in
    let closed : open_of c.spend.new.self ≡ None = search rules in
    subst (λ x. Answers z x (say.Begin c.args.scope) (inside (Begun c.open.result.at)) w) c.spend.ensures.kept.0
    (answers_inside z v w (say.Begin c.args.scope) (Begun c.open.result.at) nothing_more (ap (λ o. reading.is_alone o (say.Begin c.args.scope)) closed) c.open.ensures.gains tt
    (λ c e. tt) tt c.open.ensures.fresh tt tt tt)
