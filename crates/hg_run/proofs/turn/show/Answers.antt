use Rattle.std.proofs.Common.{◌<◌, ◌-◌, length, arith}
use Rattle.hg_run.proofs.Caught.{still_sees_met}
use Rattle.hg_run.proofs.Turns.{cursors_met, logs_met, ready_shown, saw_shown}
use Rattle.hg_run.proofs.turn.show.Goals as goal

pub meet_two-requires-clause-first : goal.meet_two-requires-clause-first
meet_two-requires-clause-first c = c.requires.ready.within

pub meet_two-requires-clause-second : goal.meet_two-requires-clause-second
meet_two-requires-clause-second c =
    let other = (c.requires.other c.in-OpenBy.writer c.in-OpenBy.is).0 in
    let first = other.first in
    let last = other.last in
    let many = c.requires.ready.many in
    omega (arith, first, last, many)

pub meet_two-requires-clause-own : goal.meet_two-requires-clause-own
meet_two-requires-clause-own c d =
    let r = c.requires.ready in
    ((r.placed d c.args.i r.within).own, (r.placed d (c.in-OpenBy.writer.session - 1) (meet_two-requires-clause-second c)).own)

pub returns-in-OpenBy-clause-logs : goal.returns-in-OpenBy-clause-logs
returns-in-OpenBy-clause-logs c = logs_met c.args.engine.now c.args.i (c.in-OpenBy.writer.session - 1) c.args.list.now.items c.meet_two.new.list.items c.requires.ready.within c.meet_two.ensures.met

pub returns-in-OpenBy-clause-cursors : goal.returns-in-OpenBy-clause-cursors
returns-in-OpenBy-clause-cursors c = cursors_met c.args.engine.now c.args.i (c.in-OpenBy.writer.session - 1) c.args.list.now.items c.meet_two.new.list.items c.meet_two.ensures.met

pub returns-in-OpenBy-clause-ready : goal.returns-in-OpenBy-clause-ready
returns-in-OpenBy-clause-ready c = λ left r.
    let other = (c.requires.other c.in-OpenBy.writer c.in-OpenBy.is).0 in
    let first = other.first in
    let last = other.last in
    let many = r.many in
    let below : c.in-OpenBy.writer.session - 1 < length c.args.list.now.items = omega (arith, first, last, many) in
    ready_shown c.args.engine.now c.args.i (c.in-OpenBy.writer.session - 1) left c.args.list.now.items c.meet_two.new.list.items below c.meet_two.ensures.met r

pub returns-in-OpenBy-clause-saw : goal.returns-in-OpenBy-clause-saw
returns-in-OpenBy-clause-saw c = λ seen saw. saw_shown c.args.engine.now c.args.i (c.in-OpenBy.writer.session - 1) seen c.args.list.now.items c.meet_two.new.list.items c.meet_two.ensures.met saw

pub returns-in-OpenBy-clause-sees : goal.returns-in-OpenBy-clause-sees
returns-in-OpenBy-clause-sees c = still_sees_met c.args.engine.now c.args.i (c.in-OpenBy.writer.session - 1) c.args.list.now.items c.meet_two.new.list.items c.meet_two.ensures.met
