use Rattle.hg_audit.proofs.Conflicting.{open_still}
use Rattle.hg_audit.proofs.conflict.is_still_open.Goals as goal

pub returns : goal.returns
returns c = λ earlier own over. open_still c.args.own.now earlier c.args.rid c.args.writer c.has.result own over c.has.ensures
