use Rattle.hg_report.proofs.Following.{one_value}
use Rattle.hg_report.proofs.law.bytes_determine_values.Goals as goal

pub returns : goal.returns
returns c = one_value
