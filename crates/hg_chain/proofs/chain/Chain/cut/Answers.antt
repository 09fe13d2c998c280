use Rattle.std.proofs.Common.{◌≡◌, ◌∙◌, sym, ap, subst, take}
use Rattle.hg_chains.specs.Versions.{IsChain, left_by}
use Rattle.hg_chains.proofs.Cuts.{left_is_chain}
use Rattle.hg_chain.proofs.chain.Chain.cut.Goals as goal

pub invariant_of-self : goal.invariant_of-self
invariant_of-self c =
    let left : c.take_tail.new.versions.items ≡ left_by c.args.bound c.args.self.now = c.take_tail.ensures.left ∙ ap (take c.kept_by-kept.result) c.self.view_is ∙ c.kept_by-kept.ensures.left in
    subst IsChain (sym left) (left_is_chain c.args.bound c.args.self.now (subst IsChain c.self.view_is c.self.invariant))
