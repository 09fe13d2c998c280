use Rattle.hg_exact.proofs.Scripted.{scripted_accepted, scripted_answers, scripted_lines}
use Rattle.hg_exact.proofs.conversations.scripts_are_conversed_as_replayed.Goals as goal

pub returns-clause-lines : goal.returns-clause-lines
returns-clause-lines c = scripted_lines

pub returns-clause-script : goal.returns-clause-script
returns-clause-script c = scripted_accepted

pub returns-clause-answers : goal.returns-clause-answers
returns-clause-answers c = scripted_answers
