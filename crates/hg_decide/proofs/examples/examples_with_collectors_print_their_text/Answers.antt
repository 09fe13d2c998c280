use Rattle.std.proofs.Common.{refl}
use Rattle.std.specs.Fmt.{digits}
use Rattle.hg_decide.proofs.examples.examples_with_collectors_print_their_text.Goals as goal

pub returns-clause-middle_of_a_chain : goal.returns-clause-middle_of_a_chain
unfolding digits
returns-clause-middle_of_a_chain c = refl

pub returns-clause-group_pass : goal.returns-clause-group_pass
unfolding digits
returns-clause-group_pass c = refl

pub returns-clause-equal_to_a_successor : goal.returns-clause-equal_to_a_successor
unfolding digits
returns-clause-equal_to_a_successor c = refl

pub returns-clause-moved : goal.returns-clause-moved
unfolding digits
returns-clause-moved c = refl

pub returns-clause-not_long : goal.returns-clause-not_long
unfolding digits
returns-clause-not_long c = refl

pub returns-clause-kept_deletion : goal.returns-clause-kept_deletion
unfolding digits
returns-clause-kept_deletion c = refl

pub returns-clause-kept_deletion_longer : goal.returns-clause-kept_deletion_longer
unfolding digits
returns-clause-kept_deletion_longer c = refl

pub returns-clause-cursor : goal.returns-clause-cursor
unfolding digits
returns-clause-cursor c = refl
