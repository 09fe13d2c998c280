use Rattle.std.proofs.Common.{◌+◌, drop}
use Rattle.hg_talk.proofs.Talking.{fault_before, going_kept, going_next, left_writing, stopped_alike}
use Rattle.hg_talk.proofs.conversation.take_piece.Goals as goal

pub returns-in-Err-clause-stopped : goal.returns-in-Err-clause-stopped
returns-in-Err-clause-stopped g c =
    stopped_alike _ (g.H.Host.heard c.loop-byte.host) _ _ c.in-Err.ensures.unheard (c.stop.ensures.stopped (g.H.Host.heard c.loop-byte.host) c.loop-byte.framer (drop c.loop-byte.byte-index c.args.piece.now)
    (going_kept _ _ _ _ _ _ c.in-Err.ensures.kept c.loop-byte.invariant.going))

pub returns-in-Err-clause-host : goal.returns-in-Err-clause-host
returns-in-Err-clause-host g c = left_writing _ _ _ _ c.in-Err.ensures.own c.stop.ensures.same c.in-Err.ensures.host

pub returns-in-Err-clause-fault : goal.returns-in-Err-clause-fault
returns-in-Err-clause-fault g c = fault_before _ _ _ _ _ c.loop-byte.invariant.later c.stop.ensures.fault

pub returns-in-Err-relieve-clause-stopped : goal.returns-in-Err-relieve-clause-stopped
returns-in-Err-relieve-clause-stopped g c = c.in-Err-relieve.ensures.stopped _ _ _ (c.in-Ok.ensures.taken _ (drop (c.loop-byte.byte-index + 1) c.args.piece.now)
    (going_next _ _ _ _ c.args.piece.now c.loop-byte.byte-index c.loop-byte-test.true c.loop-byte.invariant.going))

pub returns-in-Err-relieve-clause-fault : goal.returns-in-Err-relieve-clause-fault
returns-in-Err-relieve-clause-fault g c = fault_before _ _ _ _ _ c.loop-byte.invariant.later c.in-Err-relieve.ensures.fault
