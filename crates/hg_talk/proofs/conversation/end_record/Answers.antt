use Rattle.std.proofs.Common.{◌∙◌, sym}
use Rattle.hg_talk.specs.Heard.{sent_by}
use Rattle.hg_talk.proofs.Talking.{over_heard}
use Rattle.hg_talk.proofs.conversation.end_record.Goals as goal

pub returns-in_ok-answer-clause-over : goal.returns-in_ok-answer-clause-over
returns-in_ok-answer-clause-over g c log going =
    let told = c.in_ok-answer.ensures.heard in
    over_heard log _ _ c.args.framer.now c.args.text.now.items c.answer.new.into.items told.0 (sent_by c.heard.result) (sym c.in_ok-finish.ensures.ends ∙ c.if-branch.true)
    (c.heard.ensures ∙ c.in_ok-finish.ensures.sent c.if-branch.true) told.1 told.2 going
