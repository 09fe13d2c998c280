use Rattle.hg_base.proofs.Growth.{history_same, plain_stays}
use Rattle.hg_base.proofs.laws.plain_line_stays_right.Goals as goal

pub returns-clause-history : goal.returns-clause-history
returns-clause-history c = history_same

pub returns-clause-right : goal.returns-clause-right
returns-clause-right c = plain_stays
