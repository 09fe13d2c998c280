use Rattle.std.proofs.Common.{refl, sym, ap, ◌∙◌, subst}
use Rattle.std.specs.Prelude.{IsSome}
use Rattle.hg_base.specs.declared.statement.Statement.TheVariants as say
use Rattle.hg_base.specs.declared.line.Answer.TheVariants as answers
use Rattle.hg_core.specs.Reading as reading
use Rattle.hg_session.specs.Engines.{engine_sizes}
use Rattle.hg_session.specs.Sessions.{view_of, cursor_of}
use Rattle.hg_session.proofs.Cursors.{some_cursor, fits_some}
use Rattle.hg_session.proofs.Replying.{nothing_more, answers_inside}
use Rattle.hg_session.proofs.session.Session.close_cursor.Goals as goal

pub end-requires-clause-own : goal.end-requires-clause-own
end-requires-clause-own c =
    let own = c.requires.own in
    record { pass = own.pass; only = own.only; ties = own.ties; heard = own.heard; closed = refl }

pub end-requires-clause-opened : goal.end-requires-clause-opened
end-requires-clause-opened c =
    let one = some_cursor (cursor_of c.args.self.now) c.requires.cursor in
    let fits = fits_some c.args.self.now one.0 c.requires.own.cursor one.1 in
    subst IsSome (sym fits.0) refl

pub end-requires-clause-unwritten : goal.end-requires-clause-unwritten
end-requires-clause-unwritten c =
    let one = some_cursor (cursor_of c.args.self.now) c.requires.cursor in
    (fits_some c.args.self.now one.0 c.requires.own.cursor one.1).1

pub returns-clause-answers : goal.returns-clause-answers
returns-clause-answers c =
    let v = view_of c.args.self.now in
    let one = some_cursor (cursor_of c.args.self.now) c.requires.cursor in
    let opened = c.requires.own.ties.opens ∙ (fits_some c.args.self.now one.0 c.requires.own.cursor one.1).0 in
    answers_inside (engine_sizes c.args.engine.now) v (view_of c.end.new.self) say.CursorClose answers.Ended nothing_more
    (ap (λ o. reading.is_alone o say.CursorClose) opened) c.end.ensures.gains tt (λ c e. tt) tt tt tt tt tt
