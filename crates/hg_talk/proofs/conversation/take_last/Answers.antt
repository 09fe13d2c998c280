use Rattle.std.proofs.Common.{[]}
use Rattle.hg_talk.proofs.Talking.{going_kept, left_writing, stopped_alike}
use Rattle.hg_talk.proofs.conversation.take_last.Goals as goal

pub returns-in-Err-clause-stopped : goal.returns-in-Err-clause-stopped
returns-in-Err-clause-stopped g c =
    stopped_alike _ (g.H.Host.heard c.args.host.now) _ _ c.in-Err.ensures.unheard (c.stop.ensures.stopped (g.H.Host.heard c.args.host.now) c.args.framer.now [] (going_kept _ _ _ _ _ [] c.in-Err.ensures.kept c.requires.going))

pub returns-in-Err-clause-host : goal.returns-in-Err-clause-host
returns-in-Err-clause-host g c = left_writing _ _ _ _ c.in-Err.ensures.own c.stop.ensures.same c.in-Err.ensures.host
