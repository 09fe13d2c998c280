use Rattle.std.proofs.Common.{refl}
use Rattle.hg_base.specs.Script.{replay}
use Rattle.hg_decide.specs.Examples.{middle_of_a_chain, group_pass, equal_to_a_successor, moved, not_long, kept_deletion, kept_deletion_longer, cursor}
use Rattle.hg_decide.proofs.Decide.{so}
use Rattle.hg_decide.proofs.Decided.{decide_sound}
use Rattle.hg_decide.proofs.examples.examples_with_collectors_are_sound.Goals as goal

pub returns-clause-middle_of_a_chain : goal.returns-clause-middle_of_a_chain
returns-clause-middle_of_a_chain c = so (decide_sound replay middle_of_a_chain.script middle_of_a_chain.printed) refl

pub returns-clause-group_pass : goal.returns-clause-group_pass
returns-clause-group_pass c = so (decide_sound replay group_pass.script group_pass.printed) refl

pub returns-clause-equal_to_a_successor : goal.returns-clause-equal_to_a_successor
returns-clause-equal_to_a_successor c = so (decide_sound replay equal_to_a_successor.script equal_to_a_successor.printed) refl

pub returns-clause-moved : goal.returns-clause-moved
returns-clause-moved c = so (decide_sound replay moved.script moved.printed) refl

pub returns-clause-not_long : goal.returns-clause-not_long
returns-clause-not_long c = so (decide_sound replay not_long.script not_long.printed) refl

pub returns-clause-kept_deletion : goal.returns-clause-kept_deletion
returns-clause-kept_deletion c = so (decide_sound replay kept_deletion.script kept_deletion.printed) refl

pub returns-clause-kept_deletion_longer : goal.returns-clause-kept_deletion_longer
returns-clause-kept_deletion_longer c = so (decide_sound replay kept_deletion_longer.script kept_deletion_longer.printed) refl

pub returns-clause-cursor : goal.returns-clause-cursor
returns-clause-cursor c = so (decide_sound replay cursor.script cursor.printed) refl
