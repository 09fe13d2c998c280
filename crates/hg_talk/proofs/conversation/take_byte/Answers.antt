use Rattle.std.proofs.Common.{◌∙◌, sym}
use Rattle.hg_talk.specs.Heard.{sent_by}
use Rattle.hg_talk.proofs.Talking.{going_byte, going_heard}
use Rattle.hg_talk.proofs.conversation.take_byte.Goals as goal

pub returns-in_ok-answer-clause-taken : goal.returns-in_ok-answer-clause-taken
returns-in_ok-answer-clause-taken g c log rest going =
    let told = c.in_ok-answer.ensures.heard in
    going_heard log _ _ c.args.framer.now c.push.new.self c.clear.new.self c.args.text.now.items c.answer.new.into.items told.0 c.args.byte rest (sent_by c.heard.result)
    (sym c.in_ok-push.ensures.ends ∙ c.if-branch.true) c.in_ok-push.ensures.after c.heard.ensures c.clear.ensures told.1 told.2 going

pub returns-else-branch-clause-taken : goal.returns-else-branch-clause-taken
returns-else-branch-clause-taken g c log rest going =
    going_byte log _ c.args.framer.now c.push.new.self c.args.text.now.items c.args.byte rest (sym c.in_ok-push.ensures.ends ∙ c.if-branch.false) c.in_ok-push.ensures.after going
