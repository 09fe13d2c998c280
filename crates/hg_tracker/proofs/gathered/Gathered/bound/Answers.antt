use Rattle.std.proofs.Common.{rules, ◌≡◌, ap, ◌∙◌}
use Rattle.hg_tracker.specs.Entries.{lowest}
use Rattle.hg_tracker.proofs.Bounds.{at_table, bound_is}
use Rattle.hg_tracker.proofs.gathered.Gathered.bound.Goals as goal

pub returns : goal.returns
returns c sessions part h =
    let g = c.args.self.now in
    let e : c.serve.result.now ≡ at_table g c.args.t.0 c.index.result.now = search rules in
    c.lowest_of.ensures ∙ (ap (lowest g.horizon) e ∙ bound_is sessions part g c.args.t c.index.result.now h c.requires.there)
