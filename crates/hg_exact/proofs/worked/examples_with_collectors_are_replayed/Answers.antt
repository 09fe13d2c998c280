use Rattle.std.proofs.Common.{refl}
use Rattle.hg_exact.proofs.worked.examples_with_collectors_are_replayed.Goals as goal

pub returns-clause-middle_of_a_chain : goal.returns-clause-middle_of_a_chain
returns-clause-middle_of_a_chain c = refl

pub returns-clause-group_pass : goal.returns-clause-group_pass
returns-clause-group_pass c = refl

pub returns-clause-equal_to_a_successor : goal.returns-clause-equal_to_a_successor
returns-clause-equal_to_a_successor c = refl

pub returns-clause-moved : goal.returns-clause-moved
returns-clause-moved c = refl

pub returns-clause-not_long : goal.returns-clause-not_long
returns-clause-not_long c = refl

pub returns-clause-kept_deletion : goal.returns-clause-kept_deletion
returns-clause-kept_deletion c = refl

pub returns-clause-kept_deletion_longer : goal.returns-clause-kept_deletion_longer
returns-clause-kept_deletion_longer c = refl

pub returns-clause-cursor : goal.returns-clause-cursor
returns-clause-cursor c = refl
