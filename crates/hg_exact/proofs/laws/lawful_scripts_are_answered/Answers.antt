use Rattle.hg_exact.proofs.Asked.{lawful_asked}
use Rattle.hg_exact.proofs.laws.lawful_scripts_are_answered.Goals as goal

pub returns : goal.returns
returns c = lawful_asked
