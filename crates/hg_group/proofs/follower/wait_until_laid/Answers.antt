use Rattle.std.proofs.Common.{◌∙◌, refl, sym, subst}
use Rattle.std.specs.Prelude.{IfOk, IfErr, Result, Ok, Err}
use Rattle.hg_rule.specs.Seats.{session_view}
use Rattle.hg_queue.specs.Handing.{MayCommit}
use Rattle.hg_group.specs.Batch.{HasFinished, IsRefused}
use Rattle.hg_group.proofs.Returning.{waits, leads_none, leads_on, finished_on, refused_on}
use Rattle.hg_group.proofs.follower.wait_until_laid.Goals as goal

pub loop-init : goal.loop-init
loop-init g c = record { own = (c.requires.own, refl); led = leads_none (session_view c.args.pass.now) c.requires.own.3 c.requires.alone }

pub turn-requires-clause-alone : goal.turn-requires-clause-alone
turn-requires-clause-alone g c = (waits (session_view c.args.pass.now) (session_view c.loop.pass) c.loop.invariant.led).alone

pub turn-requires-clause-may : goal.turn-requires-clause-may
turn-requires-clause-may g c = subst MayCommit (sym (waits (session_view c.args.pass.now) (session_view c.loop.pass) c.loop.invariant.led).session_is) c.requires.may

pub loop-preserved : goal.loop-preserved
loop-preserved g c = record {
  own = (c.turn.ensures.own.0, c.turn.ensures.own.1 ∙ c.loop.invariant.own.1);
  led = leads_on (session_view c.args.pass.now) (session_view c.loop.pass) (session_view c.turn.new.pass) c.loop.invariant.led c.turn.ensures.led;
}

pub take_back-requires-clause-alone : goal.take_back-requires-clause-alone
take_back-requires-clause-alone g c =
    let v = session_view c.args.pass.now in
    let w = session_view c.turn.new.pass in
    (waits v w (leads_on v (session_view c.loop.pass) w c.loop.invariant.led c.turn.ensures.led)).alone

pub take_back-requires-clause-may : goal.take_back-requires-clause-may
take_back-requires-clause-may g c =
    let v = session_view c.args.pass.now in
    let w = session_view c.turn.new.pass in
    subst MayCommit (sym (waits v w (leads_on v (session_view c.loop.pass) w c.loop.invariant.led c.turn.ensures.led)).session_is) c.requires.may

pub returns-in-Some-turn-clause-own : goal.returns-in-Some-turn-clause-own
returns-in-Some-turn-clause-own g c = (c.take_back.ensures.own.0, c.take_back.ensures.own.1 ∙ (c.turn.ensures.own.1 ∙ c.loop.invariant.own.1))

if_ok : {A B : Type 0} (P Q : A → Type 0) (r : Result A B) → ((a : A) → P a → Q a) → IfOk r P → IfOk r Q
if_ok P Q (Ok a) f h = f a h
if_ok P Q (Err e) f h = h

if_err : {A B : Type 0} (P Q : B → Type 0) (r : Result A B) → ((b : B) → P b → Q b) → IfErr r P → IfErr r Q
if_err P Q (Ok a) f h = h
if_err P Q (Err e) f h = f e h

pub returns-in-Some-turn-clause-finished : goal.returns-in-Some-turn-clause-finished
returns-in-Some-turn-clause-finished g c =
    let v = session_view c.args.pass.now in
    let w = session_view c.turn.new.pass in
    let x = session_view c.take_back.new.pass in
    let led = leads_on v (session_view c.loop.pass) w c.loop.invariant.led c.turn.ensures.led in
    if_ok (λ r. HasFinished w r x) (λ r. HasFinished v r x) c.take_back.result (λ r h. finished_on v w x r led h) c.take_back.ensures.finished

pub returns-in-Some-turn-clause-refused : goal.returns-in-Some-turn-clause-refused
returns-in-Some-turn-clause-refused g c =
    let v = session_view c.args.pass.now in
    let w = session_view c.turn.new.pass in
    let x = session_view c.take_back.new.pass in
    let led = leads_on v (session_view c.loop.pass) w c.loop.invariant.led c.turn.ensures.led in
    if_err (λ tx. IsRefused w tx x) (λ tx. IsRefused v tx x) c.take_back.result (λ tx h. refused_on v w x tx led h) c.take_back.ensures.refused
