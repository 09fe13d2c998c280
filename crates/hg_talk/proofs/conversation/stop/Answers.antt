use Rattle.hg_talk.proofs.Talking.{stopped_whole}
use Rattle.hg_talk.proofs.conversation.stop.Goals as goal

pub returns-in-Ok-clause-stopped : goal.returns-in-Ok-clause-stopped
returns-in-Ok-clause-stopped g c heard kept rest going = stopped_whole _ heard kept rest _ (c.in-Ok.ensures.wrote heard kept rest going)

pub returns-in-Err-clause-stopped : goal.returns-in-Err-clause-stopped
returns-in-Err-clause-stopped g c heard kept rest going = c.in-Err.ensures.stopped heard kept rest going
