use Rattle.std.proofs.Common.{subst}
use Rattle.hg_chains.specs.Versions.{IsChain}
use Rattle.hg_chains.proofs.Cuts.{unopened}
use Rattle.hg_chain.proofs.chain.Chain.is_open_by.Goals as goal

pub returns-clause-none : goal.returns-clause-none
returns-clause-none c = rw c.begins_open.ensures (unopened c.args.by c.args.self.now (subst IsChain c.self.view_is c.self.invariant))
