use Rattle.std.proofs.Common.{◌≡◌, ◌∙◌, ap, subst, arith, count_by, map, ◌+◌}
use Rattle.std.proofs.lemmas.Option.{slice_get_within}
use Rattle.hg_space.specs.Links.{seen, is_free}
use Rattle.hg_space.proofs.LinkFacts.{AllLinked, no_first, adds, Adds, fills, Fills, first_free, first_taken, taken_count}
use Rattle.hg_space.proofs.space.TableSpace.take_place.Goals as goal

pub returns-in_default-clause-free : goal.returns-in_default-clause-free
returns-in_default-clause-free c =
    let s = c.self.inside.slots.items in
    let k = adds s c.push_reserved.new.self.items c.len-place.result (no_first s _ _ c.in_default.is c.self.invariant) c.push_reserved.ensures.items in
    (subst (λ sp. Adds sp.places (map seen c.push_reserved.new.self.items) c.len-place.result) c.self.view_is k).free

pub returns-in_default-clause-taken : goal.returns-in_default-clause-taken
returns-in_default-clause-taken c =
    let s = c.self.inside.slots.items in
    let k = adds s c.push_reserved.new.self.items c.len-place.result (no_first s _ _ c.in_default.is c.self.invariant) c.push_reserved.ensures.items in
    (subst (λ sp. Adds sp.places (map seen c.push_reserved.new.self.items) c.len-place.result) c.self.view_is k).taken

pub unlink-self-inside-requires : goal.unlink-self-inside-requires
unlink-self-inside-requires c =
    let s = c.self.inside.slots.items in
    let first = first_free s _ c.in-Some.place (subst (AllLinked s) c.in-Some.is c.self.invariant) in
    slice_get_within s c.in-Some.place _ first.there

pub invariant_of-self-2 : goal.invariant_of-self-2
invariant_of-self-2 c =
    let s = c.self.inside.slots.items in
    rw (c.unlink-self-inside.ensures.set, c.unlink-self-inside.ensures.next)
    (first_taken s c.in-Some.place (subst (AllLinked s) c.in-Some.is c.self.invariant))

pub returns-clause-free : goal.returns-clause-free
returns-clause-free c =
    let s = c.self.inside.slots.items in
    let k = fills s c.unlink-self-inside.new.slots.items c.in-Some.place (subst (AllLinked s) c.in-Some.is c.self.invariant) c.unlink-self-inside.ensures.set in
    (subst (λ sp. Fills sp.places (map seen c.unlink-self-inside.new.slots.items) c.in-Some.place) c.self.view_is k).free

pub returns-clause-added : goal.returns-clause-added
returns-clause-added c =
    let s = c.self.inside.slots.items in
    let k = fills s c.unlink-self-inside.new.slots.items c.in-Some.place (subst (AllLinked s) c.in-Some.is c.self.invariant) c.unlink-self-inside.ensures.set in
    (subst (λ sp. Fills sp.places (map seen c.unlink-self-inside.new.slots.items) c.in-Some.place) c.self.view_is k).added

pub returns-clause-taken : goal.returns-clause-taken
returns-clause-taken c =
    let s = c.self.inside.slots.items in
    let k = fills s c.unlink-self-inside.new.slots.items c.in-Some.place (subst (AllLinked s) c.in-Some.is c.self.invariant) c.unlink-self-inside.ensures.set in
    (subst (λ sp. Fills sp.places (map seen c.unlink-self-inside.new.slots.items) c.in-Some.place) c.self.view_is k).taken

pub returns-clause-spare : goal.returns-clause-spare
returns-clause-spare c =
    let s = c.self.inside.slots.items in
    let count = taken_count s c.in-Some.place (subst (AllLinked s) c.in-Some.is c.self.invariant) in
    let spare = ap (λ sp. sp.spare) c.self.view_is in
    let now : count_by is_free c.unlink-self-inside.new.slots.items + 1 ≡ count_by is_free s = ap (λ t. count_by is_free t + 1) c.unlink-self-inside.ensures.set ∙ count in
    omega (arith, now, spare, c.unlink-self-inside.ensures.len, c.unlink-self-inside.ensures.capacity)
