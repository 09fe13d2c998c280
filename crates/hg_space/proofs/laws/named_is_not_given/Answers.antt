use Rattle.hg_space.proofs.PlaceFacts.{given_not_taken, stays_taken}
use Rattle.hg_space.proofs.laws.named_is_not_given.Goals as goal

pub returns-clause-other : goal.returns-clause-other
returns-clause-other c = λ r named. given_not_taken c.args.space.now.places c.take_place.result c.take_place.ensures.free c.take_place.ensures.added (c.requires.taken r c.take_place.result named)

pub returns-clause-stay : goal.returns-clause-stay
returns-clause-stay c = λ r p named. stays_taken c.args.space.now.places c.take_place.new.self.places c.take_place.result c.take_place.ensures.taken p (c.requires.taken r p named)
