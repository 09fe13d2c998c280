use Rattle.std.proofs.Common.{refl, sym, subst}
use Rattle.hg_talk.specs.Talking.{IsOver}
use Rattle.hg_run.proofs.Conversing.{left_through, over_told, stopped_told, unheard_memory}
use Rattle.hg_run.proofs.conversation.talk.Goals as goal

pub returns-in_default : goal.returns-in_default
returns-in_default g c words = unheard_memory words _ _ _ c.requires.new

pub end-totals-requires : goal.end-totals-requires
end-totals-requires g c = left_through c.converse-ended.new.host c.converse-ended.result c.converse-ended.ensures.ready c.converse-ended.ensures.host

pub returns-in-Ok-ended : goal.returns-in-Ok-ended
returns-in-Ok-ended g c words =
    let heard = c.converse-ended.new.host.minutes.exchanges in
    let over = subst (IsOver _ heard) (sym c.deref.ensures.value) c.in-Ok-ended.ensures.over in
    over_told words _ _ _ _ _ heard c.deref.result.now c.end-totals.result c.in-Ok-ended.ensures.later over (c.end-totals.ensures.told c.in-Ok-ended.ensures.ready) c.write_last.result c.write_last.ensures

pub returns : goal.returns
returns g c words =
    let host = c.converse-ended.new.host in
    let stopped = c.in-Err.ensures in
    stopped_told words _ _ _ host.minutes.exchanges c.end-totals.ensures.exact host c.in-Err.trouble c.status_of.result c.status_of.ensures refl stopped.stopped stopped.fault stopped.host
