use Rattle.std.proofs.Common.{subst, arith}
use Rattle.hg_chains.specs.Versions.{IsChain}
use Rattle.hg_chains.proofs.Cuts.{kept_left, kept_first, kept_sum}
use Rattle.hg_chain.proofs.chain.Chain.kept_by.Goals as goal

pub returns-clause-left : goal.returns-clause-left
returns-clause-left c = rw c.count_kept.ensures (kept_left c.args.bound c.args.self.now (subst IsChain c.self.view_is c.self.invariant))

pub returns-clause-first : goal.returns-clause-first
returns-clause-first c = rw c.count_kept.ensures (kept_first c.args.bound c.args.self.now (subst IsChain c.self.view_is c.self.invariant))

pub returns-clause-others : goal.returns-clause-others
returns-clause-others c = let e = kept_sum c.args.bound c.args.self.now (subst IsChain c.self.view_is c.self.invariant) in rw c.count_kept.ensures (omega (arith, e))

pub returns-clause-within : goal.returns-clause-within
returns-clause-within c = let e = kept_sum c.args.bound c.args.self.now (subst IsChain c.self.view_is c.self.invariant) in rw c.count_kept.ensures (omega (arith, e))
