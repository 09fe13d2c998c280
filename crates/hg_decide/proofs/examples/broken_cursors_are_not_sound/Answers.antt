use Rattle.std.proofs.Common.{refl}
use Rattle.hg_base.specs.Script.{replay}
use Rattle.hg_decide.specs.Examples.{cursor}
use Rattle.hg_decide.specs.Broken.{row_skipped, row_twice, row_too_new, too_many_rows, too_few_rows}
use Rattle.hg_decide.specs.Audit.{in_reply}
use Rattle.hg_decide.proofs.Decide.{so, not_so}
use Rattle.hg_decide.proofs.Decided.{decide_sound}
use Rattle.hg_decide.proofs.Audited.{decide_fault}
use Rattle.hg_decide.proofs.examples.broken_cursors_are_not_sound.Goals as goal

pub returns-clause-row_skipped : goal.returns-clause-row_skipped
returns-clause-row_skipped c = not_so (decide_sound replay cursor.script row_skipped) refl

pub returns-clause-row_skipped_at : goal.returns-clause-row_skipped_at
returns-clause-row_skipped_at c = so (decide_fault replay cursor.script row_skipped (in_reply 9)) refl

pub returns-clause-row_twice_at : goal.returns-clause-row_twice_at
returns-clause-row_twice_at c = so (decide_fault replay cursor.script row_twice (in_reply 9)) refl

pub returns-clause-row_too_new_at : goal.returns-clause-row_too_new_at
returns-clause-row_too_new_at c = so (decide_fault replay cursor.script row_too_new (in_reply 9)) refl

pub returns-clause-too_many_rows_at : goal.returns-clause-too_many_rows_at
returns-clause-too_many_rows_at c = so (decide_fault replay cursor.script too_many_rows (in_reply 4)) refl

pub returns-clause-too_few_rows_at : goal.returns-clause-too_few_rows_at
returns-clause-too_few_rows_at c = so (decide_fault replay cursor.script too_few_rows (in_reply 4)) refl
