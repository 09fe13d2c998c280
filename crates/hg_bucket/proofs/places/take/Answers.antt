use Rattle.std.proofs.Common.{subst}
use Rattle.hg_bucket.specs.Parts.{IsGiven}
use Rattle.hg_bucket.proofs.Seating.{given, given_taken, given_back}
use Rattle.hg_bucket.proofs.places.take.Goals as goal

pub give_place-requires : goal.give_place-requires
give_place-requires c =
    let p = c.take_place-place.result in
    let seats = c.take_place-place.new.self.places in
    let g = given c.reserve.new.self.places seats p c.take_place-place.ensures.free c.take_place-place.ensures.added c.take_place-place.ensures.taken in
    given_taken c.reserve.new.self.places seats p g

pub returns-then-is_past-clause-refused : goal.returns-then-is_past-clause-refused
returns-then-is_past-clause-refused c =
    let p = c.take_place-place.result in
    let seats = c.take_place-place.new.self.places in
    let g = given c.reserve.new.self.places seats p c.take_place-place.ensures.free c.take_place-place.ensures.added c.take_place-place.ensures.taken in
    given_back c.args.space.now.places seats c.give_place.new.self.places p (subst (λ ps. IsGiven ps seats p) c.reserve.ensures.same g) c.give_place.ensures.freed

pub returns-clause-given : goal.returns-clause-given
returns-clause-given c =
    let p = c.take_place-place.result in
    let seats = c.take_place-place.new.self.places in
    let g = given c.reserve.new.self.places seats p c.take_place-place.ensures.free c.take_place-place.ensures.added c.take_place-place.ensures.taken in
    subst (λ ps. IsGiven ps seats p) c.reserve.ensures.same g
