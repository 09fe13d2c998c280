use Rattle.std.proofs.Common.{inl, refl, sym, ◌∙◌}
use Rattle.hg_exact.proofs.OpenAfter.{none_open}
use Rattle.hg_session.specs.Engines.{engine_sizes}
use Rattle.hg_session.specs.Sessions.{view_of, open_of}
use Rattle.hg_run.proofs.Closes.{cursor_closed, rolled_back}
use Rattle.hg_run.proofs.end.close_one.Goals as goal

pub returns-then-has_cursor-clause-closes : goal.returns-then-has_cursor-clause-closes
returns-then-has_cursor-clause-closes g c = cursor_closed c.args.engine.now c.args.session.now c.close_cursor.new.self _ c.requires (sym c.has_cursor.ensures ∙
    c.if-has_cursor.true) c.close_cursor.ensures.answers

pub returns-then-has_cursor-clause-number : goal.returns-then-has_cursor-clause-number
returns-then-has_cursor-clause-number g c = c.close_cursor.ensures.answers.number_is

pub returns-then-has_cursor-clause-kept : goal.returns-then-has_cursor-clause-kept
returns-then-has_cursor-clause-kept g c = c.close_cursor.ensures.answers.kept

pub returns-then-is_open-clause-closes : goal.returns-then-is_open-clause-closes
returns-then-is_open-clause-closes g c = (rolled_back (engine_sizes c.args.engine.now) (view_of c.args.session.now) (view_of c.rollback.new.self) _ (sym (c.is_open.ensures c.args.engine.now
    c.requires) ∙ c.if-is_open.true) c.rollback.ensures.answers).0

pub returns-then-is_open-clause-number : goal.returns-then-is_open-clause-number
returns-then-is_open-clause-number g c = c.rollback.ensures.answers.number_is

pub returns-then-is_open-clause-kept : goal.returns-then-is_open-clause-kept
returns-then-is_open-clause-kept g c = c.rollback.ensures.answers.kept

pub returns-else-is_open-clause-closed : goal.returns-else-is_open-clause-closed
returns-else-is_open-clause-closed g c = none_open (open_of c.args.session.now) (sym (c.is_open.ensures c.args.engine.now c.requires) ∙ c.if-is_open.false)

pub returns-else-is_open-clause-closes : goal.returns-else-is_open-clause-closes
returns-else-is_open-clause-closes g c = inl (none_open (open_of c.args.session.now) (sym (c.is_open.ensures c.args.engine.now c.requires) ∙ c.if-is_open.false), refl)
