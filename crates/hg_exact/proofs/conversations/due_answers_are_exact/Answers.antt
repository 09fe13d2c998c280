use Rattle.hg_exact.proofs.Due.{due_conversed, due_exact}
use Rattle.hg_exact.proofs.conversations.due_answers_are_exact.Goals as goal

pub returns-clause-itself : goal.returns-clause-itself
returns-clause-itself c = due_conversed

pub returns-clause-exact : goal.returns-clause-exact
returns-clause-exact c = due_exact
