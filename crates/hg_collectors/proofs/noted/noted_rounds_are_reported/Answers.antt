use Rattle.hg_collectors.proofs.OneRun.{has_reported}
use Rattle.hg_collectors.proofs.noted.noted_rounds_are_reported.Goals as goal

pub returns : goal.returns
returns c = has_reported
