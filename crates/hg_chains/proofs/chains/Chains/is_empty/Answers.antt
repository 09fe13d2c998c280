use Rattle.std.proofs.Common.{ap, sym, length, ◌∙◌}
use Rattle.std.specs.Prelude.{◌==◌}
use Rattle.hg_chains.proofs.Held.{list_was}
use Rattle.hg_chains.proofs.Newest.{empty_first}
use Rattle.hg_chains.proofs.chains.Chains.is_empty.Goals as goal

pub returns : goal.returns
returns c = let a = c.self.inside.arena in
    c.is_empty.ensures ∙ sym (ap (λ vs. length vs == 0) (list_was a c.self.inside.free c.args.self.now c.args.place c.self.view_is) ∙ empty_first a c.args.place c.self.invariant.arena)
