use Rattle.std.proofs.Common.{◌∙◌, sym, ap, subst}
use Rattle.std.specs.Prelude.{slice_set}
use Rattle.std.proofs.lemmas.List.{map-set}
use Rattle.hg_space.specs.declared.place.Place.TheVariants.{Free}
use Rattle.hg_space.specs.Places.{free, IsTaken}
use Rattle.hg_space.specs.Links.{seen}
use Rattle.hg_space.proofs.LinkFacts.{freed}
use Rattle.hg_space.proofs.space.TableSpace.give_place.Goals as goal

pub invariant_of-self : goal.invariant_of-self
invariant_of-self c = freed c.self.inside.slots.items c.args.place c.self.inside.first (subst (λ sp. IsTaken sp.places c.args.place) (sym c.self.view_is) c.requires) c.self.invariant

pub returns-clause-freed : goal.returns-clause-freed
returns-clause-freed c = map-set seen c.self.inside.slots.items c.args.place (Free c.self.inside.first) ∙ ap (λ sp. slice_set sp.places c.args.place free) c.self.view_is
