use Rattle.std.proofs.Common.{rules, ◌≡◌, sym, ap, ◌∙◌, subst}
use Rattle.std.specs.List.Sorted.{IsNonDecreasing}
use Rattle.hg_tracker.specs.Entries.{times}
use Rattle.hg_tracker.proofs.Bounds.{at_table, list_rises, list_numbers}
use Rattle.hg_tracker.proofs.gathered.Gathered.for_table.Goals as goal

pub returns-clause-rises : goal.returns-clause-rises
returns-clause-rises c sessions part h =
    let g = c.args.self.now in
    let e : c.serve.result.now ≡ at_table g c.args.t.0 c.index.result.now = search rules in
    subst IsNonDecreasing (sym e) (list_rises sessions part g c.args.t c.index.result.now h c.requires.there)

pub returns-clause-numbers : goal.returns-clause-numbers
returns-clause-numbers c sessions part h n =
    let g = c.args.self.now in
    let e : c.serve.result.now ≡ at_table g c.args.t.0 c.index.result.now = search rules in
    ap (times n) e ∙ list_numbers sessions part g c.args.t c.index.result.now h c.requires.there n
