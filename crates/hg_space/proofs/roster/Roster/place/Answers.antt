use Rattle.std.proofs.Common.{refl, ◌<◌, List, length, ap, sym, ◌∙◌, subst, arith, slice_get, option_map}
use Rattle.std.proofs.lemmas.Option.{slice_get_read}
use Rattle.hg_space.specs.declared.roster.Listed.{Listed}
use Rattle.hg_space.specs.Rosters.{list_of, lists_in}
use Rattle.hg_space.proofs.RosterFacts.{seen_list, list_begun, list_read}
use Rattle.hg_space.proofs.roster.Roster.place.Goals as goal

pub index-list-requires : goal.index-list-requires
index-list-requires c =
    let same = seen_list (lists_in c.self.inside.lists.items) c.args.self.now c.args.table.0 c.self.view_is in
    let begun = list_begun c.self.inside.lists.items c.args.table.0 c.args.at (subst (λ (xs : List Listed). c.args.at < length xs) (sym same) c.requires) in
    omega (arith, begun)

pub index-requires : goal.index-requires
index-requires c =
    let same = seen_list (lists_in c.self.inside.lists.items) c.args.self.now c.args.table.0 c.self.view_is in
    let within : c.args.at < length (list_of (lists_in c.self.inside.lists.items) c.args.table.0) = subst (λ (xs : List Listed). c.args.at < length xs) (sym same) c.requires in
    let is = list_read c.self.inside.lists.items c.args.table.0 c.index-list.result.now (list_begun c.self.inside.lists.items c.args.table.0 c.args.at within) c.index-list.ensures in
    let here : c.args.at < length c.index-list.result.now.items = subst (λ (xs : List Listed). c.args.at < length xs) is within in
    omega (arith, here)

pub returns : goal.returns
returns c =
    let same = seen_list (lists_in c.self.inside.lists.items) c.args.self.now c.args.table.0 c.self.view_is in
    let within : c.args.at < length (list_of (lists_in c.self.inside.lists.items) c.args.table.0) = subst (λ (xs : List Listed). c.args.at < length xs) (sym same) c.requires in
    let is = list_read c.self.inside.lists.items c.args.table.0 c.index-list.result.now (list_begun c.self.inside.lists.items c.args.table.0 c.args.at within) c.index-list.ensures in
    let here : c.args.at < length c.index-list.result.now.items = subst (λ (xs : List Listed). c.args.at < length xs) is within in
    let read = slice_get_read c.index-list.result.now.items (length c.index-list.result.now.items) c.args.at c.index.result.now refl here c.index.ensures in
    ap (λ (xs : List Listed). option_map (λ (e : Listed). e.place) (slice_get xs c.args.at)) (sym same ∙ is)
    ∙ ap (option_map (λ (e : Listed). e.place)) read
