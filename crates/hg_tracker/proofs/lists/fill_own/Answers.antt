use Rattle.std.proofs.Common.{rules, ◌≤◌, List, length, sym, ap, subst, arith, ◌∙◌}
use Rattle.hg_base.specs.declared.report.Entry.{Entry}
use Rattle.hg_tracker.specs.Entries.{numbers_for}
use Rattle.hg_tracker.proofs.TableLists.{moved_most, served_common, served_own}
use Rattle.hg_tracker.proofs.lists.fill_own.Goals as goal

pub fill-requires-clause-room : goal.fill-requires-clause-room
fill-requires-clause-room c =
    let few : length c.args.moved.now ≤ length c.args.ranked.now = subst (λ (es : List Entry). length es ≤ length c.args.ranked.now) (sym c.requires.moved) (moved_most c.args.ranked.now) in
    omega (arith, c.requires.room)

pub returns-then-not-is_empty-clause-items : goal.returns-then-not-is_empty-clause-items
returns-then-not-is_empty-clause-items c = served_own c.args.table c.args.ranked.now _ (search rules)

pub returns-else-not-is_empty-clause-items : goal.returns-else-not-is_empty-clause-items
returns-else-not-is_empty-clause-items c =
    served_common c.args.table c.args.ranked.now _ (c.fill.ensures.items ∙ ap (numbers_for c.args.table) c.requires.moved) (search rules)
