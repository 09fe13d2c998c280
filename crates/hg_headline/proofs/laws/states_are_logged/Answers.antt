use Rattle.hg_headline.proofs.OverBuckets.{always_logged, always_made, always_undone, always_removed, always_left}
use Rattle.hg_headline.proofs.laws.states_are_logged.Goals as goal

pub returns-clause-logged : goal.returns-clause-logged
returns-clause-logged c = always_logged

pub returns-clause-made : goal.returns-clause-made
returns-clause-made c = always_made

pub returns-clause-undone : goal.returns-clause-undone
returns-clause-undone c = always_undone

pub returns-clause-removed : goal.returns-clause-removed
returns-clause-removed c = always_removed

pub returns-clause-left : goal.returns-clause-left
returns-clause-left c = always_left
