use Rattle.hg_exact.proofs.Due.{due_bad, due_declared, due_long, due_none, due_replied, due_totals}
use Rattle.hg_exact.proofs.conversations.next_answer_is_due.Goals as goal

pub returns-clause-none : goal.returns-clause-none
returns-clause-none c = due_none

pub returns-clause-long : goal.returns-clause-long
returns-clause-long c = due_long

pub returns-clause-totals : goal.returns-clause-totals
returns-clause-totals c = due_totals

pub returns-clause-bad : goal.returns-clause-bad
returns-clause-bad c = due_bad

pub returns-clause-declared : goal.returns-clause-declared
returns-clause-declared c = due_declared

pub returns-clause-replied : goal.returns-clause-replied
returns-clause-replied c = due_replied
