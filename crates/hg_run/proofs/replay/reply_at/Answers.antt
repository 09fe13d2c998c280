use Rattle.std.proofs.Common.{◌≡◌, ℕ, suc, None, inl, refl, sym, ◌∙◌, subst, arith, rules}
use Rattle.std.specs.Prelude.{IfOk, Some}
use Rattle.hg_run.specs.Asked.{Replies, collector_asked}
use Rattle.hg_session.specs.Engines.{engine_sizes}
use Rattle.hg_run.specs.Collecting.{TellsAll}
use Rattle.hg_run.specs.Few.{LeavesFewIfSwept}
use Rattle.hg_run.specs.Listed.{AreReady, one_more}
use Rattle.hg_run.proofs.Asking.{gc_is, none_told, none_reported, ready_fewer, on_ok}
use Rattle.hg_collectors.proofs.Among.{if_ok}
use Rattle.hg_run.proofs.Cursors.{any_cursors, reads_in, rests_in}
use Rattle.hg_collectors.proofs.Driving.{made_none}
use Rattle.hg_run.proofs.RunningOut.{met_out, on_err}
use Rattle.hg_run.proofs.replay.reply_at.Goals as goal

pub returns-in-Some-clause-replied : goal.returns-in-Some-clause-replied
returns-in-Some-clause-replied g c =
    subst (λ s. IfOk c.sweep_known.result (λ reply. Replies c.args.engine.now c.args.crew.now.sessions.items c.args.i s reply c.sweep_known.new.crew.sessions.items))
    (sym (gc_is c.args.statement c.in-Some.kind (sym c.asked.ensures ∙ c.in-Some.is))) c.sweep_known.ensures.replied

pub returns-in-Some-clause-ready : goal.returns-in-Some-clause-ready
returns-in-Some-clause-ready g c =
    let e = c.args.engine.now in
    let old = c.args.crew.now.sessions.items in
    let new = c.sweep_known.new.crew.sessions.items in
    on_ok ((left : ℕ → ℕ) → AreReady e c.args.i left old → AreReady e c.args.i left new) ((left : ℕ → ℕ) → AreReady e c.args.i (one_more (suc c.args.i) left) old →
    AreReady e c.args.i left new) c.sweep_known.result (λ f left r. f left (ready_fewer e c.args.i left old r)) c.sweep_known.ensures.ready

pub returns-in-None-clause-told : goal.returns-in-None-clause-told
returns-in-None-clause-told g c =
    let e = c.args.engine.now in
    let z = engine_sizes e in
    let old = c.args.crew.now.sessions.items in
    let new = c.answer.new.list.items in
    let same = c.args.crew.now.collectors in
    let other : collector_asked c.args.statement ≡ None = search rules in
    if_ok (λ reply. Replies e old c.args.i c.args.statement reply new) (λ reply. TellsAll z c.args.long same reply same) c.answer.result
    (λ reply h.
    let replied = h 0 (reads_in old) (rests_in old) (λ d. inl refl) (any_cursors old) in
    record {
      removed = λ k. (let none = none_told e 0 (reads_in old) (rests_in old) old c.args.i c.args.statement reply new other replied k in omega (arith, none));
      rounds = made_none z c.args.long same reply (none_reported e 0 (reads_in old) (rests_in old) old c.args.i c.args.statement reply new other replied);
    })
    c.answer.ensures.replied

pub returns-in-Some-clause-stopped : goal.returns-in-Some-clause-stopped
returns-in-Some-clause-stopped g c =
    on_err _ _ c.sweep_known.result (λ h. met_out c.args.engine.now c.args.i c.args.crew.now.sessions.items c.sweep_known.new.crew.sessions.items h) c.sweep_known.ensures.stopped

pub returns-in-None-clause-few : goal.returns-in-None-clause-few
returns-in-None-clause-few g c =
    let e = c.args.engine.now in
    let old = c.args.crew.now.sessions.items in
    let new = c.answer.new.list.items in
    let other : collector_asked c.args.statement ≡ None = search rules in
    if_ok (λ reply. Replies e old c.args.i c.args.statement reply new) (λ reply. LeavesFewIfSwept e new c.args.crew.now.collectors reply) c.answer.result
    (λ reply h sweep is kind.
    let none = none_reported e 0 (reads_in old) (rests_in old) old c.args.i c.args.statement reply new other (h 0 (reads_in old) (rests_in old) (λ d. inl refl) (any_cursors old)) in
    absurd (let clash : None ≡ Some sweep = sym none ∙ is in cc))
    c.answer.ensures.replied
