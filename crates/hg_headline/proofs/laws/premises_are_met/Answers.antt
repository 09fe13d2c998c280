use Rattle.hg_headline.proofs.Worked.{met, ran}
use Rattle.hg_headline.proofs.laws.premises_are_met.Goals as goal

pub returns-clause-replay : goal.returns-clause-replay
returns-clause-replay c = (met.logs, met.replayed, met.closes, met.counted)

pub returns-clause-run : goal.returns-clause-run
returns-clause-run c = (ran.logs, ran.ran)
