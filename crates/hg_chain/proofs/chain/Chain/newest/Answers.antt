use Rattle.std.proofs.Common.{subst}
use Rattle.hg_chains.specs.Versions.{IsChain}
use Rattle.hg_chains.proofs.Cuts.{others_numbered}
use Rattle.hg_chain.proofs.chain.Chain.newest.Goals as goal

pub returns-clause-others : goal.returns-clause-others
returns-clause-others c = others_numbered c.args.self.now (subst IsChain c.self.view_is c.self.invariant)
