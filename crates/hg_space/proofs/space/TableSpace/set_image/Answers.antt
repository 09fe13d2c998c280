use Rattle.std.proofs.Common.{◌∙◌, sym, ap, subst}
use Rattle.std.specs.Prelude.{slice_set}
use Rattle.std.proofs.lemmas.List.{map-set}
use Rattle.hg_space.specs.declared.place.Place.TheVariants.{Taken}
use Rattle.hg_space.specs.Places.{taken, IsTaken}
use Rattle.hg_space.specs.Links.{seen}
use Rattle.hg_space.proofs.LinkFacts.{image_set}
use Rattle.hg_space.proofs.space.TableSpace.set_image.Goals as goal

pub invariant_of-self : goal.invariant_of-self
invariant_of-self c = rw c.replace.ensures.after (image_set c.self.inside.slots.items c.args.place c.args.to c.self.inside.first
    (subst (λ sp. IsTaken sp.places c.args.place) (sym c.self.view_is) c.requires) c.self.invariant)

pub returns-clause-set : goal.returns-clause-set
returns-clause-set c = rw c.replace.ensures.after (map-set seen c.self.inside.slots.items c.args.place (Taken c.args.to) ∙ ap (λ sp. slice_set sp.places c.args.place (taken c.args.to)) c.self.view_is)
