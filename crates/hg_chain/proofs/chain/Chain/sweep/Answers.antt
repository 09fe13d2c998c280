use Rattle.std.proofs.Common.{◌∙◌, ap, None, sym, subst}
use Rattle.hg_chains.specs.Versions.{IsChain, image_at}
use Rattle.hg_chains.specs.Sweeps.{IsClean}
use Rattle.hg_chains.proofs.Sweeps.{swept_is_chain}
use Rattle.hg_chains.proofs.Cleanness.{all_clean, base_stays}
use Rattle.hg_chains.proofs.Readers.{seen_same}
use Rattle.hg_chain.proofs.chain.Chain.sweep.Goals as goal

pub invariant_of-self : goal.invariant_of-self
invariant_of-self g c = subst IsChain (sym c.sweep_all.ensures.left) (swept_is_chain c.args.horizon c.args.snapshots.now None c.self.inside.versions.items c.self.invariant)

pub returns-clause-clean : goal.returns-clause-clean
returns-clause-clean g c = subst (IsClean c.args.horizon c.args.snapshots.now) (sym c.sweep_all.ensures.left)
    (all_clean c.args.horizon c.args.snapshots.now c.self.inside.versions.items c.self.invariant)

pub returns-clause-base_clean : goal.returns-clause-base_clean
returns-clause-base_clean g c =
    rw (c.sweep_all.ensures.base_gone, c.sweep_all.ensures.left) (base_stays c.args.horizon c.args.snapshots.now c.args.base c.self.inside.versions.items c.self.invariant)

pub returns-clause-seen : goal.returns-clause-seen
returns-clause-seen g c = λ s p. rw c.sweep_all.ensures.left (seen_same c.args.horizon c.args.snapshots.now c.self.inside.versions.items s p ∙ ap (image_at s) c.self.view_is)
