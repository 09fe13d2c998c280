use Rattle.hg_core.proofs.Causes.{each_refusal}
use Rattle.hg_core.proofs.theorems.each_refusal_had_its_cause.Goals as goal

pub returns : goal.returns
returns c = each_refusal
