use Rattle.hg_dump.proofs.Shown.{many_same, rows_same, shown_same}
use Rattle.hg_dump.proofs.laws.printed_history_shows_the_same.Goals as goal

pub returns-clause-shown : goal.returns-clause-shown
returns-clause-shown c = shown_same

pub returns-clause-rows : goal.returns-clause-rows
returns-clause-rows c = rows_same

pub returns-clause-many : goal.returns-clause-many
returns-clause-many c = many_same
