use Rattle.std.proofs.Common.{◌≡◌, ℕ, suc, ◌-◌, ◌≤◌, List, length, refl, subst, arith}
use Rattle.hg_base.specs.declared.statement.Record.{Record}
use Rattle.hg_base.specs.declared.line.Line.{Line}
use Rattle.hg_base.specs.Transcript.{of_session}
use Rattle.hg_session.specs.Engines.{engine_sizes}
use Rattle.hg_run.specs.Listed.{none_left}
use Rattle.hg_run.specs.Live.{HasStopped, IsLive, left_in}
use Rattle.hg_run.proofs.Going.{are_placed}
use Rattle.hg_run.proofs.Living.{all_spent, live_asks, live_on, live_turned, ready_for_one, ready_now}
use Rattle.hg_run.proofs.Stopping.{live_ran_out, live_stopped}
use Rattle.hg_run.proofs.RunningOut.{at_err}
use Rattle.hg_run.proofs.Counted.{told_on}
use Rattle.hg_run.proofs.live.answer_next.Goals as goal

pub is_spent-requires : goal.is_spent-requires
is_spent-requires g c = (c.turn.ensures.ready _ c.requires.may.live.ready).within

pub returns-then-is_spent-clause-stopped : goal.returns-then-is_spent-clause-stopped
returns-then-is_spent-clause-stopped g c records lines live =
    live_stopped c.args.engine.now c.turn.new.list.items (c.args.asked.session - 1) records lines
    (live_turned c.args.engine.now c.args.crew.now.sessions.items c.turn.new.list.items c.args.last (c.args.asked.session - 1) records lines live c.turn.ensures.logs
    c.turn.ensures.cursors c.turn.ensures.saw c.turn.ensures.ready c.turn.ensures.sees c.turn.ensures.own)

pub returns-then-is_spent-clause-spent : goal.returns-then-is_spent-clause-spent
returns-then-is_spent-clause-spent g c why records lines live =
    let first = c.requires.may.first in
    let is : suc (c.args.asked.session - 1) ≡ c.args.asked.session = omega (arith, first) in
    subst (λ j. (engine_sizes c.args.engine.now).quota ≤ length (of_session j records)) is
    (all_spent c.args.engine.now c.turn.new.list.items (c.args.asked.session - 1) records (c.turn.ensures.ready (left_in (engine_sizes c.args.engine.now) records) live.ready)
    (λ d. c.is_spent.ensures.none d c.if-is_spent.true))

pub returns-then-is_spent-clause-placed : goal.returns-then-is_spent-clause-placed
returns-then-is_spent-clause-placed g c = are_placed c.args.engine.now (c.args.asked.session - 1) _ c.turn.new.list.items (c.turn.ensures.ready _ c.requires.may.live.ready)

pub reply_at-requires-clause-ready : goal.reply_at-requires-clause-ready
reply_at-requires-clause-ready g c ks within =
    let m = c.requires.may in
    let first = m.first in
    let i : ℕ = c.args.asked.session - 1 in
    ready_now c.args.engine.now i c.turn.new.list.items m.records c.args.asked (omega (arith, first)) (c.turn.ensures.ready _ m.live.ready) (λ d. c.is_spent.ensures.left d c.if-is_spent.false)

pub reply_at-requires-clause-may : goal.reply_at-requires-clause-may
reply_at-requires-clause-may g c ks within d =
    let m = c.requires.may in
    let first = m.first in
    let i : ℕ = c.args.asked.session - 1 in
    let is : suc i ≡ c.args.asked.session = omega (arith, first) in
    let turned = live_turned c.args.engine.now c.args.crew.now.sessions.items c.turn.new.list.items c.args.last i m.records m.lines m.live c.turn.ensures.logs
    c.turn.ensures.cursors c.turn.ensures.saw c.turn.ensures.ready c.turn.ensures.sees c.turn.ensures.own in
    live_asks c.args.engine.now c.turn.new.list.items i i c.args.asked.session m.records m.lines c.args.asked.statement turned is turned.ready.within m.stands d

pub returns-in_err-reply_at-clause-stopped : goal.returns-in_err-reply_at-clause-stopped
returns-in_err-reply_at-clause-stopped g c =
    let e = c.args.engine.now in
    let i : ℕ = c.args.asked.session - 1 in
    let old = c.args.crew.now.sessions.items in
    let mid = c.turn.new.list.items in
    let new = c.reply_at.new.crew.sessions.items in
    let first = c.requires.may.first in
    let is : suc i ≡ c.args.asked.session = omega (arith, first) in
    let out = c.in_err-reply_at.ensures.stopped in
    let stopped : (records : List Record) (lines : List Line) → IsLive e old c.args.last records lines → HasStopped e new i records lines = λ records lines live.
    let turned = live_turned e old mid c.args.last i records lines live c.turn.ensures.logs c.turn.ensures.cursors c.turn.ensures.saw c.turn.ensures.ready c.turn.ensures.sees
    c.turn.ensures.own in
    live_ran_out e mid new i records lines turned out
    (out.ready none_left (ready_now e i mid records c.args.asked is turned.ready (λ d. c.is_spent.ensures.left d c.if-is_spent.false))) in
    at_err _ _ stopped

pub returns-clause-live : goal.returns-clause-live
returns-clause-live g c records lines live stands =
    let e = c.args.engine.now in
    let i : ℕ = c.args.asked.session - 1 in
    let old = c.args.crew.now.sessions.items in
    let mid = c.turn.new.list.items in
    let new = c.reply_at.new.crew.sessions.items in
    let r = c.args.asked in
    let first = c.requires.may.first in
    let is : suc i ≡ r.session = omega (arith, first) in
    let reply = c.in_ok-reply_at.field-0 in
    let turned = live_turned e old mid c.args.last i records lines live c.turn.ensures.logs c.turn.ensures.cursors c.turn.ensures.saw c.turn.ensures.ready c.turn.ensures.sees
    c.turn.ensures.own in
    live_on e mid new i records lines r (record { session = r.session; place = r.place; reply = reply }) turned is first c.requires.may.most stands refl refl
    (c.in_ok-reply_at.ensures.replied turned.seen _ _ turned.saw turned.cursors)
    (c.in_ok-reply_at.ensures.ready _ (ready_for_one e i mid records r is turned.ready (λ d. c.is_spent.ensures.left d c.if-is_spent.false)))

pub returns-clause-told : goal.returns-clause-told
returns-clause-told g c lines told =
    told_on c.args.crew.now.collectors c.reply_at.new.crew.collectors lines (record { session = c.args.asked.session; place = c.args.asked.place; reply = c.in_ok-reply_at.field-0 })
    c.in_ok-reply_at.ensures.told.removed told
