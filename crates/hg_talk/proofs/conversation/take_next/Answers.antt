use Rattle.std.proofs.Common.{[]}
use Rattle.hg_talk.proofs.Talking.{stopped_read}
use Rattle.hg_talk.proofs.conversation.take_next.Goals as goal

pub returns-in-Err-clause-stopped : goal.returns-in-Err-clause-stopped
returns-in-Err-clause-stopped g c = c.in-Err.ensures.stopped _ c.args.framer.now [] c.requires.going

pub returns-in-Err-read-clause-stopped : goal.returns-in-Err-read-clause-stopped
returns-in-Err-read-clause-stopped g c =
    stopped_read _ _ _ c.args.framer.now _ (c.in-Ok.ensures.wrote _ c.args.framer.now [] c.requires.going) c.in-Err-read.ensures.log
