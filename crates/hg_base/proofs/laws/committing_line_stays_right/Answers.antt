use Rattle.hg_base.proofs.Growth.{history_next, commit_stays}
use Rattle.hg_base.proofs.laws.committing_line_stays_right.Goals as goal

pub returns-clause-history : goal.returns-clause-history
returns-clause-history c = history_next

pub returns-clause-right : goal.returns-clause-right
returns-clause-right c = commit_stays
