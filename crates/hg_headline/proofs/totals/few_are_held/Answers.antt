use Rattle.hg_core.proofs.Runs.{steady_after}
use Rattle.hg_headline.proofs.Few.{lines_hold_few}
use Rattle.hg_headline.proofs.totals.few_are_held.Goals as goal

pub returns : goal.returns
returns c sessions tables buckets passes quota steps r n records lines = lines_hold_few _ n records lines (steady_after sessions tables buckets passes quota steps r)
