use Rattle.std.proofs.Common.{◌∙◌, subst, sym}
use Rattle.hg_talk.specs.Events.{HasWritten}
use Rattle.hg_talk.proofs.Talking.{going_wrote, stopped_writing}
use Rattle.hg_talk.proofs.conversation.flush.Goals as goal

pub returns-in-Ok-clause-wrote : goal.returns-in-Ok-clause-wrote
returns-in-Ok-clause-wrote g c heard kept rest going = going_wrote _ _ heard kept c.args.text.now.items rest going (subst (HasWritten _ _) c.deref.ensures.value c.in-Ok.ensures.done)

pub returns-in-Err-clause-stopped : goal.returns-in-Err-clause-stopped
returns-in-Err-clause-stopped g c heard kept rest going =
    let part = c.in-Err.ensures.part in
    stopped_writing _ _ heard kept c.args.text.now.items part.0 part.1 rest going (sym c.deref.ensures.value ∙ part.2) part.3
