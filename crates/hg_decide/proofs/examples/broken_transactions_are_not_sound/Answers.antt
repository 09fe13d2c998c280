use Rattle.std.proofs.Common.{refl}
use Rattle.hg_base.specs.Script.{replay}
use Rattle.hg_decide.specs.Examples.{own_write}
use Rattle.hg_decide.specs.Broken.{another_number, another_row, another_snapshot, none_left, without_a_line}
use Rattle.hg_decide.specs.Audit.{in_commits, in_reply, in_shape, in_totals}
use Rattle.hg_decide.proofs.Decide.{so, not_so}
use Rattle.hg_decide.proofs.Decided.{decide_sound}
use Rattle.hg_decide.proofs.Audited.{decide_fault}
use Rattle.hg_decide.proofs.examples.broken_transactions_are_not_sound.Goals as goal

pub returns-clause-another_row : goal.returns-clause-another_row
returns-clause-another_row c = not_so (decide_sound replay own_write.script another_row) refl

pub returns-clause-another_row_at : goal.returns-clause-another_row_at
returns-clause-another_row_at c = so (decide_fault replay own_write.script another_row (in_reply 2)) refl

pub returns-clause-another_number : goal.returns-clause-another_number
returns-clause-another_number c = not_so (decide_sound replay own_write.script another_number) refl

pub returns-clause-another_number_at : goal.returns-clause-another_number_at
returns-clause-another_number_at c = so (decide_fault replay own_write.script another_number in_commits) refl

pub returns-clause-another_snapshot : goal.returns-clause-another_snapshot
returns-clause-another_snapshot c = not_so (decide_sound replay own_write.script another_snapshot) refl

pub returns-clause-another_snapshot_at : goal.returns-clause-another_snapshot_at
returns-clause-another_snapshot_at c = so (decide_fault replay own_write.script another_snapshot in_commits) refl

pub returns-clause-none_left : goal.returns-clause-none_left
returns-clause-none_left c = not_so (decide_sound replay own_write.script none_left) refl

pub returns-clause-none_left_at : goal.returns-clause-none_left_at
returns-clause-none_left_at c = so (decide_fault replay own_write.script none_left in_totals) refl

pub returns-clause-without_a_line : goal.returns-clause-without_a_line
returns-clause-without_a_line c = not_so (decide_sound replay own_write.script without_a_line) refl

pub returns-clause-without_a_line_at : goal.returns-clause-without_a_line_at
returns-clause-without_a_line_at c = so (decide_fault replay own_write.script without_a_line (in_shape 2)) refl
