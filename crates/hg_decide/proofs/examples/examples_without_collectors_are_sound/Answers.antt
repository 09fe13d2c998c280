use Rattle.std.proofs.Common.{refl}
use Rattle.hg_base.specs.Script.{replay}
use Rattle.hg_decide.specs.Examples.{empty, own_write, absent_key, two_puts, absent_deletion, scan_ends, undeclared, open_write}
use Rattle.hg_decide.proofs.Decide.{so}
use Rattle.hg_decide.proofs.Decided.{decide_sound}
use Rattle.hg_decide.proofs.examples.examples_without_collectors_are_sound.Goals as goal

pub returns-clause-empty : goal.returns-clause-empty
returns-clause-empty c = so (decide_sound replay empty.script empty.printed) refl

pub returns-clause-own_write : goal.returns-clause-own_write
returns-clause-own_write c = so (decide_sound replay own_write.script own_write.printed) refl

pub returns-clause-absent_key : goal.returns-clause-absent_key
returns-clause-absent_key c = so (decide_sound replay absent_key.script absent_key.printed) refl

pub returns-clause-two_puts : goal.returns-clause-two_puts
returns-clause-two_puts c = so (decide_sound replay two_puts.script two_puts.printed) refl

pub returns-clause-absent_deletion : goal.returns-clause-absent_deletion
returns-clause-absent_deletion c = so (decide_sound replay absent_deletion.script absent_deletion.printed) refl

pub returns-clause-scan_ends : goal.returns-clause-scan_ends
returns-clause-scan_ends c = so (decide_sound replay scan_ends.script scan_ends.printed) refl

pub returns-clause-undeclared : goal.returns-clause-undeclared
returns-clause-undeclared c = so (decide_sound replay undeclared.script undeclared.printed) refl

pub returns-clause-open_write : goal.returns-clause-open_write
returns-clause-open_write c = so (decide_sound replay open_write.script open_write.printed) refl
