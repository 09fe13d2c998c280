use Rattle.hg_exact.proofs.Accepted.{all_answered, next_accepted}
use Rattle.hg_exact.proofs.conversations.accepted_statements_are_answered.Goals as goal

pub returns-clause-answered : goal.returns-clause-answered
returns-clause-answered c = all_answered

pub returns-clause-next : goal.returns-clause-next
returns-clause-next c = next_accepted
