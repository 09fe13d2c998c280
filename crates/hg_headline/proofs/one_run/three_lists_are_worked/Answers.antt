use Rattle.hg_headline.proofs.WorkedLists.{refused, held_back, moved}
use Rattle.hg_headline.proofs.one_run.three_lists_are_worked.Goals as goal

pub returns-clause-refused : goal.returns-clause-refused
returns-clause-refused c = refused

pub returns-clause-held_back : goal.returns-clause-held_back
returns-clause-held_back c = held_back

pub returns-clause-moved : goal.returns-clause-moved
returns-clause-moved c = moved
