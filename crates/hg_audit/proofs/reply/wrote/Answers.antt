use Rattle.std.proofs.Common.{◌∙◌}
use Rattle.hg_audit.proofs.Looking.{wrote_is}
use Rattle.hg_audit.proofs.reply.wrote.Goals as goal

pub returns : goal.returns
returns c = λ earlier is. c.is_some.ensures ∙ wrote_is c.args.own.now c.args.now.now.session c.args.now.now.transaction earlier c.next.result c.next.ensures.next is
