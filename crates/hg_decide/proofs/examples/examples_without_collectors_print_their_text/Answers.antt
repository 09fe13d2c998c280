use Rattle.std.proofs.Common.{refl}
use Rattle.std.specs.Fmt.{digits}
use Rattle.hg_decide.proofs.examples.examples_without_collectors_print_their_text.Goals as goal

pub returns-clause-empty : goal.returns-clause-empty
unfolding digits
returns-clause-empty c = refl

pub returns-clause-own_write : goal.returns-clause-own_write
unfolding digits
returns-clause-own_write c = refl

pub returns-clause-absent_key : goal.returns-clause-absent_key
unfolding digits
returns-clause-absent_key c = refl

pub returns-clause-two_puts : goal.returns-clause-two_puts
unfolding digits
returns-clause-two_puts c = refl

pub returns-clause-absent_deletion : goal.returns-clause-absent_deletion
unfolding digits
returns-clause-absent_deletion c = refl

pub returns-clause-scan_ends : goal.returns-clause-scan_ends
unfolding digits
returns-clause-scan_ends c = refl

pub returns-clause-undeclared : goal.returns-clause-undeclared
unfolding digits
returns-clause-undeclared c = refl

pub returns-clause-open_write : goal.returns-clause-open_write
unfolding digits
returns-clause-open_write c = refl
