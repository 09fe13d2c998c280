use Rattle.hg_exact.proofs.Conversing.{answers_first, conversed_first}
use Rattle.hg_exact.proofs.conversations.first_answers_are_of_first_records.Goals as goal

pub returns-clause-exact : goal.returns-clause-exact
returns-clause-exact c = conversed_first

pub returns-clause-texts : goal.returns-clause-texts
returns-clause-texts c = answers_first
