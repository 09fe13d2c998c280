use Rattle.hg_seed.proofs.Made.{made-once}
use Rattle.hg_seed.proofs.law.a_seed_has_one_script.Goals as goal

pub returns : goal.returns
returns c = made-once c.args._seed
