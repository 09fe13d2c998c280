use Rattle.hg_audit.proofs.Finding.{if_ok_keeps}
use Rattle.hg_audit.proofs.Exact.{of_text}
use Rattle.hg_audit.proofs.verdict.audit.Goals as goal

pub returns-clause-sound : goal.returns-clause-sound
returns-clause-sound c = if_ok_keeps c.find_verdict.result _ _ (λ v h. of_text c.args.script.now c.args.text.now c.in-Ok.printed v c.in-Ok.ensures.text c.in-Ok.ensures.only h) c.find_verdict.ensures
