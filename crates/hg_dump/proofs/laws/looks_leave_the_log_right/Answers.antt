use Rattle.hg_dump.proofs.Looks.{logged_read, logged_without}
use Rattle.hg_dump.proofs.laws.looks_leave_the_log_right.Goals as goal

pub returns-clause-looks : goal.returns-clause-looks
returns-clause-looks c = logged_without

pub returns-clause-read : goal.returns-clause-read
returns-clause-read c = logged_read
