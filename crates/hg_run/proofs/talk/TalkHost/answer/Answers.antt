use Rattle.std.proofs.Common.{[], ◌∷◌, ◌++◌, ◌∙◌, ap, subst}
use Rattle.hg_talk.specs.Heard.{sent_by}
use Rattle.hg_talk.specs.Talking.{asked_in}
use Rattle.hg_run.specs.Desk.{IsSaid}
use Rattle.hg_run.proofs.Conversing.{ready_more, said_lost}
use Rattle.hg_run.proofs.talk.TalkHost.answer.Goals as goal

pub returns-in-Err-clause-stopped : goal.returns-in-Err-clause-stopped
returns-in-Err-clause-stopped g c =
    let r = c.requires.ready in
    record { answers = r.answers; ended = c.in-Err.ensures.ended (asked_in c.args.self.now.minutes.exchanges) r.answers r.going; heard = r.heard }

pub returns-then-is_err-clause-stopped : goal.returns-then-is_err-clause-stopped
returns-then-is_err-clause-stopped g c =
    let r = c.requires.ready in
    let sent = asked_in c.args.self.now.minutes.exchanges in
    record {
      answers = r.answers;
      ended = said_lost c.say.new.self sent r.answers (sent_by c.args.asked) _ _ c.args.self.now.desk r.going (c.in-Ok.ensures.said sent r.answers r.going);
      heard = r.heard;
    }

pub returns-clause-ready : goal.returns-clause-ready
returns-clause-ready g c =
    let r = c.requires.ready in
    let heard = c.args.self.now.minutes.exchanges in
    let sent = asked_in heard in
    let x = sent_by c.args.asked in
    let text = c.say.new.text.items in
    let said : IsSaid c.say.new.self sent r.answers x [] text =
    subst (λ old. IsSaid c.say.new.self sent r.answers x old text) c.clear.ensures.items (c.in-Ok.ensures.said sent r.answers r.going) in
    ready_more _ heard r.answers x text r.heard said
    (c.then-self.ensures ∙ ap (λ b. heard ++ (record { asked = x; answer = b }) ∷ []) c.deref-2.ensures.value)
