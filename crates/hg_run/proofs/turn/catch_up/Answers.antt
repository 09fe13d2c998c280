use Rattle.std.proofs.Common.{◌≡◌, ◌≤◌, ◌+◌, length, refl, arith, rules}
use Rattle.hg_run.specs.Listed.{none_left}
use Rattle.hg_run.proofs.Caught.{catching_first, catching_more, caught_up}
use Rattle.hg_run.proofs.turn.catch_up.Goals as goal

pub loop-i-init : goal.loop-i-init
loop-i-init c = (catching_first c.args.engine.now c.args.last c.args.list.now.items c.requires.ready, search rules)

pub turn-requires-clause-ready : goal.turn-requires-clause-ready
turn-requires-clause-ready c = c.loop-i.invariant.0.ready

pub turn-requires-clause-within : goal.turn-requires-clause-within
turn-requires-clause-within c = let many = c.loop-i.invariant.0.many in omega (arith, c.loop-i-test.true, c.loop-i.invariant.1, many)

pub loop-i-preserved : goal.loop-i-preserved
loop-i-preserved c =
    let p = c.loop-i.invariant.0 in
    let t = c.turn.ensures in
    let ready = t.ready none_left p.ready in
    let many : length c.turn.new.list.items ≡ length c.loop-i.list.items = (let a = ready.many in let b = p.ready.many in omega (arith, a, b)) in (
      catching_more c.args.engine.now c.args.last c.loop-i.seer c.loop-i.i (c.loop-i.i + 1) c.args.list.now.items c.loop-i.list.items c.turn.new.list.items refl p many t.logs t.saw ready t.sees t.own,
      c.loop-i.invariant.1,
    )

pub returns-clause-caught : goal.returns-clause-caught
returns-clause-caught c =
    let most : length c.args.list.now.items ≤ c.loop-i.i = omega (arith, c.loop-i-test.false, c.loop-i.invariant.1) in
    caught_up c.args.engine.now c.args.last c.loop-i.seer c.loop-i.i c.args.list.now.items c.loop-i.list.items most c.loop-i.invariant.0
