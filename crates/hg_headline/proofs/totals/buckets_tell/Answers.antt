use Rattle.hg_core.proofs.Runs.{steady_after}
use Rattle.hg_headline.proofs.Totalling.{state_tells, more_tells, totals_tell, history_is_newest}
use Rattle.hg_headline.proofs.totals.buckets_tell.Goals as goal

pub returns-clause-bucket : goal.returns-clause-bucket
returns-clause-bucket c sessions tables buckets passes quota steps r rest b counts are = state_tells _ b counts (steady_after sessions tables buckets passes quota steps r) rest are

pub returns-clause-more : goal.returns-clause-more
returns-clause-more c = more_tells

pub returns-clause-all : goal.returns-clause-all
returns-clause-all c = totals_tell

pub returns-clause-mark : goal.returns-clause-mark
returns-clause-mark c sessions tables buckets passes quota steps r = history_is_newest _ (steady_after sessions tables buckets passes quota steps r)
