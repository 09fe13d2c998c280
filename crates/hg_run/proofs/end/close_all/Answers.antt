use Rattle.std.proofs.Common.{◌<◌, ◌≤◌, ◌+◌, length, refl, arith}
use Rattle.hg_run.proofs.Closes.{partly_more, partly_row, partly_logs}
use Rattle.hg_run.proofs.end.close_all.Goals as goal

pub loop-i-preserved : goal.loop-i-preserved
loop-i-preserved g c =
    let m = c.close_at.ensures in
    let within : c.loop-i.i < length c.args.list.now.items = omega (arith, c.loop-i-test.true, c.loop-i.invariant.1) in (
      partly_more c.args.engine.now c.loop-i.i (c.loop-i.i + 1) c.args.list.now.items c.loop-i.list.items c.close_at.new.list.items refl within c.requires
          (record { many = m.many; closed = m.closed; closes = m.closes; number = m.number; kept = m.kept; rest = m.rest; own = m.own }) c.loop-i.invariant.0,
      c.loop-i.invariant.1,
    )

pub returns-clause-closed : goal.returns-clause-closed
returns-clause-closed g c =
    let most : length c.args.list.now.items ≤ c.loop-i.i = omega (arith, c.loop-i-test.false, c.loop-i.invariant.1) in
    partly_row c.args.engine.now c.args.list.now.items c.loop-i.list.items c.loop-i.i most c.loop-i.invariant.0

pub returns-clause-closes : goal.returns-clause-closes
returns-clause-closes g c =
    let most : length c.args.list.now.items ≤ c.loop-i.i = omega (arith, c.loop-i-test.false, c.loop-i.invariant.1) in
    partly_logs c.args.engine.now c.args.list.now.items c.loop-i.list.items c.loop-i.i most c.loop-i.invariant.0

pub returns-clause-kept : goal.returns-clause-kept
returns-clause-kept g c d k within = c.loop-i.invariant.0.kept d k
