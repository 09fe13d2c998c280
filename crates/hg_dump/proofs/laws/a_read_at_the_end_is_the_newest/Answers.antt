use Rattle.hg_dump.proofs.Exported.{at_the_end}
use Rattle.hg_dump.proofs.Newest.{newest}
use Rattle.hg_dump.proofs.laws.a_read_at_the_end_is_the_newest.Goals as goal

pub returns-clause-least : goal.returns-clause-least
returns-clause-least c = newest

pub returns-clause-same : goal.returns-clause-same
returns-clause-same c = at_the_end
