use Rattle.std.proofs.Common.{rules, ◌≡◌, map, ◌∙◌}
use Rattle.hg_base.specs.declared.report.Entry.{Entry}
use Rattle.hg_tracker.specs.Entries.{lowest}
use Rattle.hg_tracker.proofs.Bounds.{least_is_bound}
use Rattle.hg_tracker.proofs.gathered.Gathered.least.Goals as goal

pub returns : goal.returns
returns c sessions part h =
    let g = c.args.self.now in
    let e : c.lowest_entry.result ≡ lowest g.horizon (map (λ (e : Entry). e.number) g.ranked.items) = search rules in
    e ∙ least_is_bound sessions part g h
