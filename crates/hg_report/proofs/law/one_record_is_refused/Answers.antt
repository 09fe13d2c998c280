use Rattle.hg_report.proofs.Shorter.{one_line}
use Rattle.hg_report.proofs.law.one_record_is_refused.Goals as goal

pub returns : goal.returns
returns c = one_line
