use Rattle.std.proofs.Common.{◌∙◌, ◌≤◌, Bool, true, false, ap, Some, arith}
use Rattle.std.specs.Prelude.{is_some, if◌then◌else◌}
use Rattle.hg_space.specs.Index.{place_of}
use Rattle.hg_space.proofs.IndexFacts.{changed, inserted_distinct, other_stays}
use Rattle.hg_space.proofs.TableFacts.{faithful_again}
use Rattle.hg_space.proofs.index.RidIndex.insert.Goals as goal

one_more : (found : Bool) → (if found then 0 else 1) ≤ 1
one_more true = omega arith
one_more false = omega arith

pub invariant_of-self-2 : goal.invariant_of-self-2
invariant_of-self-2 c =
    let es = c.self.inside.places.entries in
    let p = c.args.place in
    let put = changed es c.insert.new.self.entries c.args.rid (Some p) c.in_ok-insert.ensures.updates.0 in (
      record {
        ascends = c.in_ok-insert.ensures.ordered;
        distinct = inserted_distinct es c.insert.new.self.entries c.args.rid p put (rw c.self.view_is c.requires.new_place) c.self.invariant.0.distinct;
      },
      faithful_again c.reserve.new.self c.put.new.self es c.insert.new.self.entries c.args.rid (Some p) put c.put.ensures.here c.put.ensures.others c.in_ok-reserve.ensures.faithful,
      (let room = c.in_ok-reserve.ensures.room in let many = c.in_ok-insert.ensures.len in let bins = c.put.ensures.bins in let one = one_more (is_some c.in_ok-insert.field-0) in omega (arith, room, many, bins, one)),
    )

pub returns-clause-others : goal.returns-clause-others
returns-clause-others c =
    λ q apart.
    let es = c.self.inside.places.entries in
    other_stays es c.insert.new.self.entries c.args.rid _ (changed es c.insert.new.self.entries c.args.rid _ c.in_ok-insert.ensures.updates.0) q apart ∙ ap (λ fs. place_of fs q) c.self.view_is
