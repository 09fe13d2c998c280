use Rattle.std.proofs.Common.{◌≡◌, ◌+◌, ◌∷◌, [], None, ap, ◌∙◌, subst, rules}
use Rattle.hg_base.specs.declared.statement.Statement.TheVariants as say
use Rattle.hg_base.specs.declared.line.Answer.TheVariants.{Begun}
use Rattle.hg_core.specs.declared.log.LogEntry.TheVariants.{Began}
use Rattle.hg_core.specs.Reading as reading
use Rattle.hg_session.specs.Engines.{engine_sizes}
use Rattle.hg_session.specs.Sessions.{view_of, open_of}
use Rattle.hg_session.specs.Gains.{Gains}
use Rattle.hg_session.specs.Replies.{Answers, inside}
use Rattle.hg_session.proofs.Cursors.{no_cursor}
use Rattle.hg_session.proofs.Replying.{nothing_more, answers_inside}
use Rattle.hg_session.proofs.Tying.{ties_unwritten}
use Rattle.hg_session.proofs.session.Session.open_cursor.Goals as goal

pub open-snapshot-requires-clause-own : goal.open-snapshot-requires-clause-own
open-snapshot-requires-clause-own c = c.spend.ensures.may c.args.engine.now c.requires.own (no_cursor c.args.engine.now c.args.self.now c.requires.own c.requires.closed)

pub open-snapshot-requires-clause-tables : goal.open-snapshot-requires-clause-tables
open-snapshot-requires-clause-tables c = c.only.ensures.below (engine_sizes c.args.engine.now).tables c.requires.table

pub returns-clause-answers : goal.returns-clause-answers
returns-clause-answers c =
    let z = engine_sizes c.args.engine.now in
    let v = view_of c.spend.new.self in
    let w = view_of c.open-snapshot.new.self in
    let says = say.CursorOpen c.args.table c.args.low c.args.high in
    let closed : open_of c.spend.new.self ≡ None = search rules in
    let begun = subst (λ s. Gains v (Began c.open-snapshot.result.at s ∷ []) w) c.only.ensures.is c.open-snapshot.ensures.gains in
    subst (λ x. Answers z x says (inside (Begun c.open-snapshot.result.at)) w) c.spend.ensures.kept.0
    (answers_inside z v w says (Begun c.open-snapshot.result.at) nothing_more (ap (λ o. reading.is_alone o says) closed) begun tt (λ c e. tt) tt c.open-snapshot.ensures.fresh tt tt tt)

pub returns-clause-spent : goal.returns-clause-spent
returns-clause-spent c =
    let own = c.open-snapshot.ensures.own in (
      record { pass = own.pass; only = own.only; ties = ties_unwritten _ _ _ _ _ own.ties; heard = own.heard; cursor = search rules },
      ap (λ n. n + 1) c.open-snapshot.ensures.kept.0 ∙ c.spend.ensures.left,
      c.open-snapshot.ensures.kept.1 ∙ c.spend.ensures.retries,
    )
