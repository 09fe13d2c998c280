use Rattle.std.proofs.Common.{◌≡◌, ℕ, suc, List, length, sym, ap, subst, arith}
use Rattle.hg_base.specs.Transcript.{rest_after}
use Rattle.hg_core.specs.Events.{put}
use Rattle.hg_script.specs.Rules.{reading}
use Rattle.hg_session.specs.Engines.{engine_sizes}
use Rattle.hg_session.specs.Finished.{logs_of}
use Rattle.hg_run.specs.Asked.{IsReplied}
use Rattle.hg_core.specs.declared.log.LogEntry.{LogEntry}
use Rattle.hg_run.specs.Caught.{HasCaughtUp}
use Rattle.hg_run.specs.Listed.{none_left, one_more}
use Rattle.hg_run.proofs.Caught.{caught_asked, caught_kept, replied_first}
use Rattle.hg_run.proofs.Cursors.{any_rest_at, cursors_kept, cursors_moved}
use Rattle.hg_run.proofs.Going.{are_placed}
use Rattle.hg_run.proofs.RunningOut.{at_err, run_out_at}
use Rattle.hg_run.proofs.Turns.{has_asked, more_here, some_of, ready_asked, other_asked, replied, saw_asked}
use Rattle.hg_run.proofs.turn.answer.Goals as goal

pub ask_at-requires-clause-within : goal.ask_at-requires-clause-within
ask_at-requires-clause-within g c = c.requires.ready.within

pub ask_at-requires-clause-own : goal.ask_at-requires-clause-own
ask_at-requires-clause-own g c d = (c.requires.ready.placed d c.args.i c.requires.ready.within).own

pub ask_at-requires-clause-left : goal.ask_at-requires-clause-left
ask_at-requires-clause-left g c d = let left = c.requires.ready.left_is d c.args.i c.requires.ready.within in let one = more_here (suc c.args.i) none_left in omega (arith, left, one)

pub show-requires-clause-ready : goal.show-requires-clause-ready
show-requires-clause-ready g c =
    let m = c.in_ok-reply.ensures in
    let any = any_rest_at c.args.list.now.items c.args.i c.requires.ready.within in
    ready_asked c.args.engine.now c.args.i any.0 none_left c.args.statement c.in_ok-reply.reply c.args.list.now.items c.ask_at.new.list.items
    (has_asked c.args.engine.now c.args.i any.0 c.args.statement c.in_ok-reply.reply c.args.list.now.items c.ask_at.new.list.items m.others.many m.answers
    (λ d. (m.ran d).left) m.others.rest (λ d. (m.ran d).own) any.1) c.requires.ready

pub show-requires-clause-other : goal.show-requires-clause-other
show-requires-clause-other g c writer is =
    let m = c.in_ok-reply.ensures in
    let any = any_rest_at c.args.list.now.items c.args.i c.requires.ready.within in
    other_asked c.args.engine.now c.args.i any.0 c.args.statement c.in_ok-reply.reply c.args.list.now.items c.ask_at.new.list.items (one_more (suc c.args.i) none_left)
    (has_asked c.args.engine.now c.args.i any.0 c.args.statement c.in_ok-reply.reply c.args.list.now.items c.ask_at.new.list.items m.others.many m.answers
    (λ d. (m.ran d).left) m.others.rest (λ d. (m.ran d).own) any.1) c.requires.ready writer is

pub returns-clause-replied : goal.returns-clause-replied
returns-clause-replied g c seen reads rest saw have =
    let e = c.args.engine.now in
    let z = engine_sizes e in
    let old = c.args.list.now.items in
    let mid = c.ask_at.new.list.items in
    let new = c.show.new.list.items in
    let s = c.args.statement in
    let reply = c.in_ok-reply.reply in
    let m = c.in_ok-reply.ensures in
    let r = c.requires.ready in
    let d = some_of old c.args.i r.within in
    let h = has_asked e c.args.i (rest (suc c.args.i)) s reply old mid m.others.many m.answers (λ d. (m.ran d).left) m.others.rest (λ d. (m.ran d).own) (λ d. (have d c.args.i r.within).left) in
    let told = replied e c.args.i (rest (suc c.args.i)) none_left seen s reply old mid d c.requires.some c.requires.other h r saw (λ w is. c.show.ensures.backed d w is) in
    let many = c.show.ensures.ready none_left (ready_asked e c.args.i (rest (suc c.args.i)) none_left s reply old mid h r) in
    let same : length new ≡ length mid = (let a = many.many in let b = m.others.many in let e = r.many in omega (arith, a, b, e)) in
    let shown : HasCaughtUp c.args.i new → HasCaughtUp c.args.i mid = caught_kept c.args.i mid new same
    (λ k apart. ap (λ (logs : ℕ → List LogEntry). logs (suc k)) c.show.ensures.logs) c.show.ensures.sees in
    record {
      later = seen;
      replied = subst (λ new. IsReplied z.buckets z.sessions (logs_of old) seen seen (suc c.args.i) (rest (suc c.args.i)) s reply new) (sym c.show.ensures.logs) told;
      cursors = cursors_kept (put reads (suc c.args.i) (reading (reads (suc c.args.i)) s)) (put rest (suc c.args.i) (rest_after s reply.answer (rest (suc c.args.i)))) mid new same
          c.show.ensures.cursors (cursors_moved z reads rest old mid c.args.i s reply m.others.many r.within m.answers m.others.rest have);
      saw = c.show.ensures.saw seen (saw_asked e c.args.i seen (rest (suc c.args.i)) s reply old mid h saw);
      caught = λ k. caught_asked e c.args.i (rest (suc c.args.i)) none_left s reply old mid h r (shown k);
      first = λ k. replied_first e c.args.i (rest (suc c.args.i)) none_left s reply old mid h r d (shown k);
    }

pub returns-clause-ready : goal.returns-clause-ready
returns-clause-ready g c left r =
    let m = c.in_ok-reply.ensures in
    let any = any_rest_at c.args.list.now.items c.args.i c.requires.ready.within in
    c.show.ensures.ready left (ready_asked c.args.engine.now c.args.i any.0 left c.args.statement c.in_ok-reply.reply c.args.list.now.items c.ask_at.new.list.items
    (has_asked c.args.engine.now c.args.i any.0 c.args.statement c.in_ok-reply.reply c.args.list.now.items c.ask_at.new.list.items m.others.many m.answers
    (λ d. (m.ran d).left) m.others.rest (λ d. (m.ran d).own) any.1) r)

pub returns-in_err-reply-clause-stopped : goal.returns-in_err-reply-clause-stopped
returns-in_err-reply-clause-stopped g c =
    let m = c.ask_at.ensures in
    at_err _ _ (run_out_at c.args.engine.now c.args.i c.args.list.now.items c.ask_at.new.list.items m.others m.ran c.in_err-reply.ensures.stopped c.requires.ready.within)

pub returns-in_err-reply-clause-placed : goal.returns-in_err-reply-clause-placed
returns-in_err-reply-clause-placed g c =
    let m = c.ask_at.ensures in
    let out = run_out_at c.args.engine.now c.args.i c.args.list.now.items c.ask_at.new.list.items m.others m.ran c.in_err-reply.ensures.stopped c.requires.ready.within in
    are_placed c.args.engine.now c.args.i none_left c.ask_at.new.list.items (out.ready none_left c.requires.ready)

pub returns-clause-placed : goal.returns-clause-placed
returns-clause-placed g c = are_placed c.args.engine.now c.args.i none_left c.show.new.list.items (returns-clause-ready g c none_left c.requires.ready)
