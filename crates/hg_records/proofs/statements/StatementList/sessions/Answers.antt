use Rattle.std.proofs.Common.{◌∙◌}
use Rattle.hg_records.proofs.Unpacked.{fold_greatest}
use Rattle.hg_records.proofs.statements.StatementList.sessions.Goals as goal

pub returns : goal.returns
returns c = rw (← c.self.view_is, ← c.deref.ensures.value) (c.greatest_session.ensures ∙ fold_greatest 1 c.self.inside.numbers.items c.self.inside.rows.items c.deref.result.now)
