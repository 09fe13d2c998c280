use Rattle.std.proofs.Common.{ap, ◌∙◌}
use Rattle.hg_chains.specs.Places.{nodes_of}
use Rattle.hg_chains.proofs.chains.Chains.nodes.Goals as goal

pub returns : goal.returns
returns c = c.self.invariant.sum ∙ ap nodes_of c.self.view_is
