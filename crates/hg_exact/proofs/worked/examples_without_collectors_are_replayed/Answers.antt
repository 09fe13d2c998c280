use Rattle.std.proofs.Common.{refl}
use Rattle.hg_exact.proofs.worked.examples_without_collectors_are_replayed.Goals as goal

pub returns-clause-empty : goal.returns-clause-empty
returns-clause-empty c = refl

pub returns-clause-own_write : goal.returns-clause-own_write
returns-clause-own_write c = refl

pub returns-clause-absent_key : goal.returns-clause-absent_key
returns-clause-absent_key c = refl

pub returns-clause-two_puts : goal.returns-clause-two_puts
returns-clause-two_puts c = refl

pub returns-clause-absent_deletion : goal.returns-clause-absent_deletion
returns-clause-absent_deletion c = refl

pub returns-clause-scan_ends : goal.returns-clause-scan_ends
returns-clause-scan_ends c = refl

pub returns-clause-undeclared : goal.returns-clause-undeclared
returns-clause-undeclared c = refl

pub returns-clause-open_write : goal.returns-clause-open_write
returns-clause-open_write c = refl
