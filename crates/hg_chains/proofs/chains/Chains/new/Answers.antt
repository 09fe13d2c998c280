use Rattle.std.proofs.Common.{refl}
use Rattle.hg_chains.proofs.Held.{holds_none}
use Rattle.hg_chains.proofs.chains.Chains.new.Goals as goal

pub invariant_of-result : goal.invariant_of-result
invariant_of-result c = holds_none c.new.result c.new-2.result (record { first = 0; count = 0 }) refl c.new.ensures.heads c.new.ensures.nodes c.new.ensures.free c.new-2.ensures
