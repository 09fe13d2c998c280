use Rattle.std.proofs.Common.{◌<◌, length, arith}
use Rattle.hg_script.proofs.Walk.{takes}
use Rattle.hg_script.proofs.record_list.RecordList.take_next.Goals as goal

pub invariant_of-self : goal.invariant_of-self
invariant_of-self c =
    let l = c.self.inside in
    let all = l.script.now.records in
    let less : l.at < length all = omega (arith, c.if-i-record_count.false, c.record_count.ensures.same) in
    let r = c.in_ok-record.record in
    (takes l.session l.at c.after-self-inside.result all r less (omega (arith, c.record_count.ensures.most)) c.in_ok-record.ensures c.self.invariant (c.after-self-inside.ensures r)).1

pub returns-clause-some : goal.returns-clause-some
returns-clause-some c =
    let l = c.self.inside in
    let all = l.script.now.records in
    let less : l.at < length all = omega (arith, c.if-i-record_count.false, c.record_count.ensures.same) in
    let r = c.in_ok-record.record in
    rw (← c.self.view_is)
    (takes l.session l.at c.after-self-inside.result all r less (omega (arith, c.record_count.ensures.most)) c.in_ok-record.ensures c.self.invariant (c.after-self-inside.ensures r)).0
