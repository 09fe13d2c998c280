use Rattle.std.proofs.Common.{sym, ◌∙◌}
use Rattle.hg_script.proofs.Lawful.{lawful}
use Rattle.hg_script.specs.Fields.{rows_of}
use Rattle.hg_report.proofs.Following.{one_value}
use Rattle.hg_run.proofs.laws.text_determines_what_was_printed.Goals as goal

pub returns-clause-only : goal.returns-clause-only
returns-clause-only c mode script text other lawful p is = one_value script other p.printed lawful is.fits p.fit (sym is.text ∙ p.same)

pub returns-clause-served : goal.returns-clause-served
returns-clause-served c mode other bytes text a b =
    one_value _ a.printed.printed b.printed.printed (lawful (rows_of bytes) a.valid) a.printed.fit b.printed.fit (sym a.printed.same ∙ b.printed.same)
