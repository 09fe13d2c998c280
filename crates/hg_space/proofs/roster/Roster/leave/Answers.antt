use Rattle.std.proofs.Common.{sym, subst, arith}
use Rattle.std.proofs.lemmas.Option.{slice_get_within}
use Rattle.hg_space.specs.Rosters.{list_of, lists_in, StandsIn}
use Rattle.hg_space.proofs.RosterFacts.{seen_list}
use Rattle.hg_space.proofs.Leaving.{standing_within, found, leaves, left_last, left_moved, moved_within, left_seen}
use Rattle.hg_space.proofs.roster.Roster.leave.Goals as goal

pub index-requires : goal.index-requires
index-requires c =
    let ls = lists_in c.self.inside.lists.items in
    let stands = subst (λ xs. StandsIn xs c.args.place) (sym (seen_list ls c.args.self.now c.args.table.0 c.self.view_is)) c.requires in
    let within = standing_within ls c.self.inside.standings.items c.args.table.0 c.args.place c.self.invariant stands in
    omega (arith, within)

pub take_out-requires : goal.take_out-requires
take_out-requires c =
    let ls = lists_in c.self.inside.lists.items in
    let stands = subst (λ xs. StandsIn xs c.args.place) (sym (seen_list ls c.args.self.now c.args.table.0 c.self.view_is)) c.requires in
    let x = found ls c.self.inside.standings.items c.args.table.0 c.args.place c.index.result.now c.self.invariant stands c.index.ensures in
    slice_get_within (list_of ls c.args.table.0) c.index.result.now.at x.0 x.1.0

pub index_mut-requires : goal.index_mut-requires
index_mut-requires c =
    let ls = lists_in c.self.inside.lists.items in
    let ms = lists_in c.take_out.new.lists.items in
    let ss = c.self.inside.standings.items in
    let stands = subst (λ xs. StandsIn xs c.args.place) (sym (seen_list ls c.args.self.now c.args.table.0 c.self.view_is)) c.requires in
    let x = leaves ls ms ss c.args.table.0 c.args.place c.index.result.now c.self.invariant stands c.index.ensures c.take_out.ensures.list c.take_out.ensures.others in
    let within = moved_within ls ms ss c.args.table.0 c.index.result.now.at c.in-Some.moved x.0 c.self.invariant x.1.0 (sym c.in-Some.ensures.moved) in
    omega (arith, within)

pub invariant_of-self : goal.invariant_of-self
invariant_of-self c =
    let ls = lists_in c.self.inside.lists.items in
    let ms = lists_in c.take_out.new.lists.items in
    let ss = c.self.inside.standings.items in
    let stands = subst (λ xs. StandsIn xs c.args.place) (sym (seen_list ls c.args.self.now c.args.table.0 c.self.view_is)) c.requires in
    let x = leaves ls ms ss c.args.table.0 c.args.place c.index.result.now c.self.invariant stands c.index.ensures c.take_out.ensures.list c.take_out.ensures.others in
    left_moved ls ms ss c.args.table.0 c.index.result.now.at c.in-Some.moved x.0 c.index_mut.result.now c.self.invariant x.1.0 (sym c.in-Some.ensures.moved) c.index_mut.ensures.value

pub invariant_of-self-in_default : goal.invariant_of-self-in_default
invariant_of-self-in_default c =
    let ls = lists_in c.self.inside.lists.items in
    let ms = lists_in c.take_out.new.lists.items in
    let ss = c.self.inside.standings.items in
    let stands = subst (λ xs. StandsIn xs c.args.place) (sym (seen_list ls c.args.self.now c.args.table.0 c.self.view_is)) c.requires in
    let x = leaves ls ms ss c.args.table.0 c.args.place c.index.result.now c.self.invariant stands c.index.ensures c.take_out.ensures.list c.take_out.ensures.others in
    left_last ls ms ss c.args.table.0 c.index.result.now.at x.0 c.self.invariant x.1.0 (sym c.in_default.ensures.moved)

pub returns-in-Some-clause-moved : goal.returns-in-Some-clause-moved
returns-in-Some-clause-moved c =
    let ls = lists_in c.self.inside.lists.items in
    let ms = lists_in c.take_out.new.lists.items in
    let ss = c.self.inside.standings.items in
    let stands = subst (λ xs. StandsIn xs c.args.place) (sym (seen_list ls c.args.self.now c.args.table.0 c.self.view_is)) c.requires in
    let x = leaves ls ms ss c.args.table.0 c.args.place c.index.result.now c.self.invariant stands c.index.ensures c.take_out.ensures.list c.take_out.ensures.others in
    (left_seen ls ms c.args.self.now ss c.args.table.0 c.args.place c.index.result.now.at x.0 c.self.view_is c.self.invariant x.1.0 x.1.1).moved

pub returns-in-Some-clause-front : goal.returns-in-Some-clause-front
returns-in-Some-clause-front c =
    let ls = lists_in c.self.inside.lists.items in
    let ms = lists_in c.take_out.new.lists.items in
    let ss = c.self.inside.standings.items in
    let stands = subst (λ xs. StandsIn xs c.args.place) (sym (seen_list ls c.args.self.now c.args.table.0 c.self.view_is)) c.requires in
    let x = leaves ls ms ss c.args.table.0 c.args.place c.index.result.now c.self.invariant stands c.index.ensures c.take_out.ensures.list c.take_out.ensures.others in
    (left_seen ls ms c.args.self.now ss c.args.table.0 c.args.place c.index.result.now.at x.0 c.self.view_is c.self.invariant x.1.0 x.1.1).front

pub returns-in-Some-clause-stay : goal.returns-in-Some-clause-stay
returns-in-Some-clause-stay c =
    let ls = lists_in c.self.inside.lists.items in
    let ms = lists_in c.take_out.new.lists.items in
    let ss = c.self.inside.standings.items in
    let stands = subst (λ xs. StandsIn xs c.args.place) (sym (seen_list ls c.args.self.now c.args.table.0 c.self.view_is)) c.requires in
    let x = leaves ls ms ss c.args.table.0 c.args.place c.index.result.now c.self.invariant stands c.index.ensures c.take_out.ensures.list c.take_out.ensures.others in
    (left_seen ls ms c.args.self.now ss c.args.table.0 c.args.place c.index.result.now.at x.0 c.self.view_is c.self.invariant x.1.0 x.1.1).stay

pub returns-in-Some-clause-others : goal.returns-in-Some-clause-others
returns-in-Some-clause-others c =
    let ls = lists_in c.self.inside.lists.items in
    let ms = lists_in c.take_out.new.lists.items in
    let ss = c.self.inside.standings.items in
    let stands = subst (λ xs. StandsIn xs c.args.place) (sym (seen_list ls c.args.self.now c.args.table.0 c.self.view_is)) c.requires in
    let x = leaves ls ms ss c.args.table.0 c.args.place c.index.result.now c.self.invariant stands c.index.ensures c.take_out.ensures.list c.take_out.ensures.others in
    (left_seen ls ms c.args.self.now ss c.args.table.0 c.args.place c.index.result.now.at x.0 c.self.view_is c.self.invariant x.1.0 x.1.1).others

pub returns-in_default-clause-moved : goal.returns-in_default-clause-moved
returns-in_default-clause-moved c =
    let ls = lists_in c.self.inside.lists.items in
    let ms = lists_in c.take_out.new.lists.items in
    let ss = c.self.inside.standings.items in
    let stands = subst (λ xs. StandsIn xs c.args.place) (sym (seen_list ls c.args.self.now c.args.table.0 c.self.view_is)) c.requires in
    let x = leaves ls ms ss c.args.table.0 c.args.place c.index.result.now c.self.invariant stands c.index.ensures c.take_out.ensures.list c.take_out.ensures.others in
    (left_seen ls ms c.args.self.now ss c.args.table.0 c.args.place c.index.result.now.at x.0 c.self.view_is c.self.invariant x.1.0 x.1.1).moved

pub returns-in_default-clause-front : goal.returns-in_default-clause-front
returns-in_default-clause-front c =
    let ls = lists_in c.self.inside.lists.items in
    let ms = lists_in c.take_out.new.lists.items in
    let ss = c.self.inside.standings.items in
    let stands = subst (λ xs. StandsIn xs c.args.place) (sym (seen_list ls c.args.self.now c.args.table.0 c.self.view_is)) c.requires in
    let x = leaves ls ms ss c.args.table.0 c.args.place c.index.result.now c.self.invariant stands c.index.ensures c.take_out.ensures.list c.take_out.ensures.others in
    (left_seen ls ms c.args.self.now ss c.args.table.0 c.args.place c.index.result.now.at x.0 c.self.view_is c.self.invariant x.1.0 x.1.1).front

pub returns-in_default-clause-stay : goal.returns-in_default-clause-stay
returns-in_default-clause-stay c =
    let ls = lists_in c.self.inside.lists.items in
    let ms = lists_in c.take_out.new.lists.items in
    let ss = c.self.inside.standings.items in
    let stands = subst (λ xs. StandsIn xs c.args.place) (sym (seen_list ls c.args.self.now c.args.table.0 c.self.view_is)) c.requires in
    let x = leaves ls ms ss c.args.table.0 c.args.place c.index.result.now c.self.invariant stands c.index.ensures c.take_out.ensures.list c.take_out.ensures.others in
    (left_seen ls ms c.args.self.now ss c.args.table.0 c.args.place c.index.result.now.at x.0 c.self.view_is c.self.invariant x.1.0 x.1.1).stay

pub returns-in_default-clause-others : goal.returns-in_default-clause-others
returns-in_default-clause-others c =
    let ls = lists_in c.self.inside.lists.items in
    let ms = lists_in c.take_out.new.lists.items in
    let ss = c.self.inside.standings.items in
    let stands = subst (λ xs. StandsIn xs c.args.place) (sym (seen_list ls c.args.self.now c.args.table.0 c.self.view_is)) c.requires in
    let x = leaves ls ms ss c.args.table.0 c.args.place c.index.result.now c.self.invariant stands c.index.ensures c.take_out.ensures.list c.take_out.ensures.others in
    (left_seen ls ms c.args.self.now ss c.args.table.0 c.args.place c.index.result.now.at x.0 c.self.view_is c.self.invariant x.1.0 x.1.1).others
