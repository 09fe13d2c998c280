use Rattle.std.proofs.Common.{ap, sym, ◌∙◌}
use Rattle.hg_chains.specs.Versions.{is_open_by}
use Rattle.hg_chains.proofs.Held.{list_was}
use Rattle.hg_chains.proofs.Newest.{open_first}
use Rattle.hg_chains.proofs.chains.Chains.is_open_by.Goals as goal

pub returns : goal.returns
returns c = let a = c.self.inside.arena in
    c.is_open_by.ensures ∙ sym (ap (is_open_by c.args.by) (list_was a c.self.inside.free c.args.self.now c.args.place c.self.view_is) ∙ open_first a c.args.place c.args.by c.self.invariant.arena)
