use Rattle.std.proofs.Common.{ap, sym, subst, drop, ◌∙◌}
use Rattle.std.specs.Prelude.{IsSome}
use Rattle.hg_base.specs.Lists.{Each}
use Rattle.hg_chains.specs.Versions.{newest, number_in}
use Rattle.hg_chains.proofs.Cuts.{others_numbered}
use Rattle.hg_chains.proofs.Held.{list_was}
use Rattle.hg_chains.proofs.Newest.{newest_first}
use Rattle.hg_chains.proofs.chains.Chains.newest.Goals as goal

pub returns-clause-newest : goal.returns-clause-newest
returns-clause-newest c = let a = c.self.inside.arena in
    c.newest.ensures ∙ sym (ap newest (list_was a c.self.inside.free c.args.self.now c.args.place c.self.view_is) ∙ newest_first a c.args.place c.self.invariant.arena)

pub returns-clause-others : goal.returns-clause-others
returns-clause-others c =
    let a = c.self.inside.arena in
    subst (λ vs. Each (λ v. IsSome (number_in v.stamp)) (drop 1 vs)) (sym (list_was a c.self.inside.free c.args.self.now c.args.place c.self.view_is))
    (others_numbered _ (c.self.invariant.chains c.args.place))
