use Rattle.std.proofs.Common.{◌∙◌, ap, None, arith}
use Rattle.std.specs.Map.{remove_entry}
use Rattle.hg_base.specs.History.{same_rid}
use Rattle.hg_space.specs.Index.{place_of}
use Rattle.hg_space.proofs.IndexFacts.{changed, removed_distinct, other_stays, taken_out}
use Rattle.hg_space.proofs.TableFacts.{faithful_again}
use Rattle.hg_space.proofs.index.RidIndex.remove.Goals as goal

pub invariant_of-self : goal.invariant_of-self
invariant_of-self c =
    let es = c.self.inside.places.entries in
    let gone = changed es c.remove.new.self.entries c.args.rid None c.remove.ensures.updates.0 in (
      record {
        ascends = c.remove.ensures.ordered;
        distinct = removed_distinct es c.remove.new.self.entries c.args.rid gone c.self.invariant.0.distinct;
      },
      faithful_again c.self.inside.slots c.take_out.new.self es c.remove.new.self.entries c.args.rid None gone c.take_out.ensures.here c.take_out.ensures.others c.self.invariant.1,
      (let room = c.self.invariant.2 in let many = c.remove.ensures.len in let bins = c.take_out.ensures.bins in omega (arith, room, many, bins)),
    )

pub returns-clause-others : goal.returns-clause-others
returns-clause-others c =
    λ q apart.
    let es = c.self.inside.places.entries in
    other_stays es c.remove.new.self.entries c.args.rid _ (changed es c.remove.new.self.entries c.args.rid _ c.remove.ensures.updates.0) q apart ∙ ap (λ fs. place_of fs q) c.self.view_is

pub returns-clause-list : goal.returns-clause-list
returns-clause-list c = c.remove.ensures.entries ∙ taken_out c.self.inside.places.entries c.args.rid ∙ ap (remove_entry (same_rid c.args.rid)) c.self.view_is
