use Rattle.std.proofs.Common.{◌≡◌, ◌≤◌, ◌<◌, length, ap, sym, ◌∙◌, subst, slice_index_or, arith}
use Rattle.hg_space.specs.Rosters.{list_of, lists_in}
use Rattle.hg_space.proofs.RosterFacts.{seen_list, list_read, list_not_begun}
use Rattle.hg_space.proofs.roster.Roster.count.Goals as goal

pub returns-in_default : goal.returns-in_default
returns-in_default c =
    let past : length c.self.inside.lists.items ≤ c.args.table.0 = subst (λ xs. length xs ≤ c.args.table.0) c.deref.ensures.value c.in_default.ensures.lookup.3 in
    sym (ap length (sym (seen_list (lists_in c.self.inside.lists.items) c.args.self.now c.args.table.0 c.self.view_is) ∙ list_not_begun c.self.inside.lists.items c.args.table.0 past))

pub returns : goal.returns
returns c =
    let there : c.args.table.0 < length c.self.inside.lists.items = subst (λ xs. c.args.table.0 < length xs) c.deref.ensures.value c.in-Some.ensures.lookup.3.0 in
    let read = c.in-Some.ensures.lookup.1 ∙ ap (λ xs. slice_index_or xs c.args.table.0 c.in-Some.list.now) c.deref.ensures.value in
    let is : length (list_of c.args.self.now c.args.table.0) ≡ length c.in-Some.list.now.items = ap length
    (sym (seen_list (lists_in c.self.inside.lists.items) c.args.self.now c.args.table.0 c.self.view_is) ∙ list_read c.self.inside.lists.items c.args.table.0 c.in-Some.list.now there read) in
    omega (arith, is, c.len.ensures)
