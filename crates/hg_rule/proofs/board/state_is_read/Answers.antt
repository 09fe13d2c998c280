use Rattle.std.proofs.Common.{subst}
use Rattle.hg_core.specs.Invariant.{IsSteady}
use Rattle.hg_rule.proofs.Reached.{steady}
use Rattle.hg_rule.proofs.Found.{reads}
use Rattle.hg_rule.proofs.board.state_is_read.Goals as goal

pub returns-clause-state : goal.returns-clause-state
returns-clause-state c z t room r = reads z t room r

pub returns-clause-steady : goal.returns-clause-steady
returns-clause-steady c z t room r = subst IsSteady (reads z t room r) (steady r)
