use Rattle.std.proofs.Common.{rules, ◌≡◌, List, length, subst}
use Rattle.hg_base.specs.declared.report.Entry.{Entry}
use Rattle.hg_tracker.proofs.TableLists.{none_listed}
use Rattle.hg_tracker.proofs.lists.fill_claimed.Goals as goal

pub returns-else-claimed-clause-lists : goal.returns-else-claimed-clause-lists
returns-else-claimed-clause-lists c =
    let none : length c.args.moved.now ≡ 0 = search rules in
    none_listed 0 c.args.ranked.now c.args.lists.now (subst (λ (es : List Entry). length es ≡ 0) c.requires.moved none) (c.requires.empty c.if-claimed.false)
