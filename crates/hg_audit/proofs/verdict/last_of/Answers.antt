use Rattle.hg_audit.proofs.Placing.{last_is}
use Rattle.hg_audit.proofs.verdict.last_of.Goals as goal

pub returns-in-Some : goal.returns-in-Some
returns-in-Some c = λ script printed same. last_is script printed c.args.lines.now c.in_ok-before.before c.in-Some.line same (c.in_ok-before.ensures script.tables) c.in-Some.ensures.1
