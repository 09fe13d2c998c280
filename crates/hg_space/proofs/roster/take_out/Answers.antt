use Rattle.std.proofs.Common.{length, ap, sym, ◌∙◌, slice_get, option_map, refl}
use Rattle.std.proofs.lemmas.Option.{slice_get_past, slice_get_read}
use Rattle.hg_space.specs.declared.roster.Listed.{Listed}
use Rattle.hg_space.proofs.RosterFacts.{list_set, list_set_apart, list_begun}
use Rattle.hg_space.proofs.Leaving.{taken_out}
use Rattle.hg_space.proofs.roster.take_out.Goals as goal

pub returns-in_err-moved-clause-list : goal.returns-in_err-moved-clause-list
returns-in_err-moved-clause-list c = λ e there.
    taken_out c.args.lists.now.items c.args.table.0 c.args.at c.index_mut-list.result.now c.swap_remove-left.new.self c.swap_remove-left.result e
    (list_begun c.args.lists.now.items c.args.table.0 c.args.at c.requires) c.index_mut-list.ensures.value c.swap_remove-left.ensures.items c.swap_remove-left.ensures.value there

pub returns-in_err-moved-clause-moved : goal.returns-in_err-moved-clause-moved
returns-in_err-moved-clause-moved c =
    let past = c.in_err-moved.ensures.lookup.3 in
    let none = ap (λ xs. slice_get xs c.args.at) (list_set c.args.lists.now.items c.args.table.0 c.swap_remove-left.new.self
    (list_begun c.args.lists.now.items c.args.table.0 c.args.at c.requires) ∙ sym c.deref.ensures.value) ∙ slice_get_past c.deref.result.now c.args.at past in
    c.from_residual.ensures ∙ sym (ap (option_map (λ (e : Listed). e.place)) none)

pub returns-in_err-moved-clause-others : goal.returns-in_err-moved-clause-others
returns-in_err-moved-clause-others c = λ t apart. list_set_apart c.args.lists.now.items c.args.table.0 c.swap_remove-left.new.self t apart

pub returns-clause-list : goal.returns-clause-list
returns-clause-list c = λ e there.
    taken_out c.args.lists.now.items c.args.table.0 c.args.at c.index_mut-list.result.now c.swap_remove-left.new.self c.swap_remove-left.result e
    (list_begun c.args.lists.now.items c.args.table.0 c.args.at c.requires) c.index_mut-list.ensures.value c.swap_remove-left.ensures.items c.swap_remove-left.ensures.value there

pub returns-clause-moved : goal.returns-clause-moved
returns-clause-moved c =
    let h = c.in_ok-moved.ensures.lookup in
    let read = slice_get_read c.deref.result.now (length c.deref.result.now) c.args.at c.in_ok-moved.moved.now refl h.3.0 h.1 in
    let some = ap (λ xs. slice_get xs c.args.at) (list_set c.args.lists.now.items c.args.table.0 c.swap_remove-left.new.self
    (list_begun c.args.lists.now.items c.args.table.0 c.args.at c.requires) ∙ sym c.deref.ensures.value) ∙ read in
    sym (ap (option_map (λ (e : Listed). e.place)) some)

pub returns-clause-others : goal.returns-clause-others
returns-clause-others c = λ t apart. list_set_apart c.args.lists.now.items c.args.table.0 c.swap_remove-left.new.self t apart
