use Rattle.std.proofs.Common.{◌+◌, length, sym, ap, ◌∙◌, Some, arith, List}
use Rattle.hg_chains.specs.Places.{list_at}
use Rattle.hg_chains.specs.Versions.{left_by}
use Rattle.hg_space.specs.Places.{image_at}
use Rattle.hg_bucket.specs.BucketModel.{Kept}
use Rattle.hg_bucket.specs.Parts.{records_of, settled}
use Rattle.hg_bucket.proofs.Stamping.{others_then}
use Rattle.hg_bucket.proofs.Shortening.{held_at_most, set_turns, stays, cuts, cuts_gone}
use Rattle.hg_bucket.proofs.Cutting.{none_at}
use Rattle.hg_bucket.proofs.Listing.{chains_alike, alike_but, cut_some, stands}
use Rattle.hg_bucket.proofs.Leaving.{may_leave}
use Rattle.hg_bucket.proofs.Listed.{front_keys}
use Rattle.hg_bucket.proofs.cut.cut.Goals as goal

pub settle-requires : goal.settle-requires
settle-requires c =
    let has = c.requires.has in
    c.requires.kept.whole.taken c.args.placed.rid c.args.placed.place has

pub drop_bare-requires-clause-bare : goal.drop_bare-requires-clause-bare
drop_bare-requires-clause-bare c =
    let r = c.args.placed.rid in
    let cs = c.args.chains.now in
    let ds = c.cut-image.new.self in
    let places = c.args.space.now.places in
    let p = c.args.placed.place in
    let index = c.requires.index in
    let has = c.requires.has in
    let newest = c.in-Some.newest in
    let seats = c.settle.new.space.places in
    let at = sym c.in-Some.is ∙ c.cut-image.ensures.image in
    let turns = set_turns c.args.index.now cs ds places seats r p (left_by c.args.bound (list_at cs p))
    (settled (Some newest) (image_at places p)) index c.requires.kept.whole has c.cut-image.ensures.left c.cut-image.ensures.others c.settle.ensures.set in
    let done = cuts c.args.bound c.args.index.now cs ds places seats r p (Some newest) c.requires.kept.whole at turns in
    done.bare

pub overflow_add-gone : goal.overflow_add-gone
overflow_add-gone c =
    let r = c.args.placed.rid in
    let cs = c.args.chains.now in
    let ds = c.cut-image.new.self in
    let places = c.args.space.now.places in
    let p = c.args.placed.place in
    let index = c.requires.index in
    let has = c.requires.has in
    let newest = c.in-Some.newest in
    let seats = c.settle.new.space.places in
    let at = sym c.in-Some.is ∙ c.cut-image.ensures.image in
    let turns = set_turns c.args.index.now cs ds places seats r p (left_by c.args.bound (list_at cs p))
    (settled (Some newest) (image_at places p)) index c.requires.kept.whole has c.cut-image.ensures.left c.cut-image.ensures.others c.settle.ensures.set in
    let done = cuts c.args.bound c.args.index.now cs ds places seats r p (Some newest) c.requires.kept.whole at turns in
    let gone = cuts_gone c.args.bound c.args.index.now cs ds places seats r p newest c.cut-image.result.gone c.settle.result turns at c.cut-image.ensures.gone c.settle.ensures.gone in
    let few = c.requires.few in
    omega (arith, gone, few, held_at_most (records_of c.args.index.now cs places) r)

pub returns-in_default-clause-kept : goal.returns-in_default-clause-kept
returns-in_default-clause-kept c =
    let r = c.args.placed.rid in
    let cs = c.args.chains.now in
    let ds = c.cut-image.new.self in
    let places = c.args.space.now.places in
    let p = c.args.placed.place in
    let index = c.requires.index in
    let has = c.requires.has in
    let at = sym c.in_default.is ∙ c.cut-image.ensures.image in
    let done = stays c.args.bound c.args.index.now cs ds places r p index c.requires.kept.whole has at c.cut-image.ensures.left c.cut-image.ensures.others in
    record {
      whole = done.whole;
      listed = chains_alike c.args.index.now cs ds c.args.longs.now c.requires.kept.listed
          (alike_but cs ds p c.cut-image.ensures.others (c.cut-image.ensures.left ∙ none_at c.args.bound (list_at cs p) (sym at)));
    }

pub returns-in_default-clause-here : goal.returns-in_default-clause-here
returns-in_default-clause-here c =
    let r = c.args.placed.rid in
    let cs = c.args.chains.now in
    let ds = c.cut-image.new.self in
    let places = c.args.space.now.places in
    let p = c.args.placed.place in
    let index = c.requires.index in
    let has = c.requires.has in
    let at = sym c.in_default.is ∙ c.cut-image.ensures.image in
    let done = stays c.args.bound c.args.index.now cs ds places r p index c.requires.kept.whole has at c.cut-image.ensures.left c.cut-image.ensures.others in
    done.here

pub returns-in_default-clause-others : goal.returns-in_default-clause-others
returns-in_default-clause-others c =
    let r = c.args.placed.rid in
    let cs = c.args.chains.now in
    let ds = c.cut-image.new.self in
    let places = c.args.space.now.places in
    let p = c.args.placed.place in
    let index = c.requires.index in
    let has = c.requires.has in
    let at = sym c.in_default.is ∙ c.cut-image.ensures.image in
    let done = stays c.args.bound c.args.index.now cs ds places r p index c.requires.kept.whole has at c.cut-image.ensures.left c.cut-image.ensures.others in
    done.others

pub returns-in_default-clause-gone : goal.returns-in_default-clause-gone
returns-in_default-clause-gone c =
    let r = c.args.placed.rid in
    let cs = c.args.chains.now in
    let ds = c.cut-image.new.self in
    let places = c.args.space.now.places in
    let p = c.args.placed.place in
    let index = c.requires.index in
    let has = c.requires.has in
    let at = sym c.in_default.is ∙ c.cut-image.ensures.image in
    let done = stays c.args.bound c.args.index.now cs ds places r p index c.requires.kept.whole has at c.cut-image.ensures.left c.cut-image.ensures.others in
    let long = ap (λ (us : List Kept). length us) done.same in
    omega (arith, long)

pub returns-in_default-clause-left : goal.returns-in_default-clause-left
returns-in_default-clause-left c =
    let r = c.args.placed.rid in
    let cs = c.args.chains.now in
    let ds = c.cut-image.new.self in
    let places = c.args.space.now.places in
    let p = c.args.placed.place in
    let index = c.requires.index in
    let has = c.requires.has in
    let at = sym c.in_default.is ∙ c.cut-image.ensures.image in
    let done = stays c.args.bound c.args.index.now cs ds places r p index c.requires.kept.whole has at c.cut-image.ensures.left c.cut-image.ensures.others in
    omega (arith, done.left)

pub returns-clause-here : goal.returns-clause-here
returns-clause-here c =
    let r = c.args.placed.rid in
    let cs = c.args.chains.now in
    let ds = c.cut-image.new.self in
    let places = c.args.space.now.places in
    let p = c.args.placed.place in
    let index = c.requires.index in
    let has = c.requires.has in
    let newest = c.in-Some.newest in
    let seats = c.settle.new.space.places in
    let at = sym c.in-Some.is ∙ c.cut-image.ensures.image in
    let turns = set_turns c.args.index.now cs ds places seats r p (left_by c.args.bound (list_at cs p))
    (settled (Some newest) (image_at places p)) index c.requires.kept.whole has c.cut-image.ensures.left c.cut-image.ensures.others c.settle.ensures.set in
    let done = cuts c.args.bound c.args.index.now cs ds places seats r p (Some newest) c.requires.kept.whole at turns in
    c.drop_bare.ensures.here ∙ done.here

pub returns-clause-others : goal.returns-clause-others
returns-clause-others c =
    let r = c.args.placed.rid in
    let cs = c.args.chains.now in
    let ds = c.cut-image.new.self in
    let places = c.args.space.now.places in
    let p = c.args.placed.place in
    let index = c.requires.index in
    let has = c.requires.has in
    let newest = c.in-Some.newest in
    let seats = c.settle.new.space.places in
    let at = sym c.in-Some.is ∙ c.cut-image.ensures.image in
    let turns = set_turns c.args.index.now cs ds places seats r p (left_by c.args.bound (list_at cs p))
    (settled (Some newest) (image_at places p)) index c.requires.kept.whole has c.cut-image.ensures.left c.cut-image.ensures.others c.settle.ensures.set in
    let done = cuts c.args.bound c.args.index.now cs ds places seats r p (Some newest) c.requires.kept.whole at turns in
    others_then _ _ _ r done.others c.drop_bare.ensures.others

pub returns-clause-gone : goal.returns-clause-gone
returns-clause-gone c =
    let r = c.args.placed.rid in
    let cs = c.args.chains.now in
    let ds = c.cut-image.new.self in
    let places = c.args.space.now.places in
    let p = c.args.placed.place in
    let index = c.requires.index in
    let has = c.requires.has in
    let newest = c.in-Some.newest in
    let seats = c.settle.new.space.places in
    let at = sym c.in-Some.is ∙ c.cut-image.ensures.image in
    let turns = set_turns c.args.index.now cs ds places seats r p (left_by c.args.bound (list_at cs p))
    (settled (Some newest) (image_at places p)) index c.requires.kept.whole has c.cut-image.ensures.left c.cut-image.ensures.others c.settle.ensures.set in
    let done = cuts c.args.bound c.args.index.now cs ds places seats r p (Some newest) c.requires.kept.whole at turns in
    let gone = cuts_gone c.args.bound c.args.index.now cs ds places seats r p newest c.cut-image.result.gone c.settle.result turns at c.cut-image.ensures.gone c.settle.ensures.gone in
    ap (λ (us : List Kept). length us + (c.cut-image.result.gone + c.settle.result)) c.drop_bare.ensures.here ∙ gone

pub returns-clause-left : goal.returns-clause-left
returns-clause-left c =
    let r = c.args.placed.rid in
    let cs = c.args.chains.now in
    let ds = c.cut-image.new.self in
    let places = c.args.space.now.places in
    let p = c.args.placed.place in
    let index = c.requires.index in
    let has = c.requires.has in
    let newest = c.in-Some.newest in
    let seats = c.settle.new.space.places in
    let at = sym c.in-Some.is ∙ c.cut-image.ensures.image in
    let turns = set_turns c.args.index.now cs ds places seats r p (left_by c.args.bound (list_at cs p))
    (settled (Some newest) (image_at places p)) index c.requires.kept.whole has c.cut-image.ensures.left c.cut-image.ensures.others c.settle.ensures.set in
    let done = cuts c.args.bound c.args.index.now cs ds places seats r p (Some newest) c.requires.kept.whole at turns in
    let gone = cuts_gone c.args.bound c.args.index.now cs ds places seats r p newest c.cut-image.result.gone c.settle.result turns at c.cut-image.ensures.gone c.settle.ensures.gone in
    omega (arith, gone, done.left, c.drop_bare.ensures.left)

pub leave_bare-requires : goal.leave_bare-requires
leave_bare-requires c =
    let cs = c.args.chains.now in
    let ds = c.cut-image.new.self in
    let p = c.args.placed.place in
    let has = c.requires.has in
    let some = cut_some c.args.bound (list_at cs p) c.in-Some.newest (sym c.in-Some.is ∙ c.cut-image.ensures.image) in
    stands c.args.index.now cs c.args.longs.now c.args.placed.rid p c.requires.kept.listed has some

pub returns-clause-kept : goal.returns-clause-kept
returns-clause-kept c =
    let cs = c.args.chains.now in
    let ds = c.cut-image.new.self in
    let p = c.args.placed.place in
    let has = c.requires.has in
    let some = cut_some c.args.bound (list_at cs p) c.in-Some.newest (sym c.in-Some.is ∙ c.cut-image.ensures.image) in
    record {
      whole = c.drop_bare.ensures.whole;
      listed = c.drop_bare.ensures.lists c.leave_bare.new.longs
          (may_leave c.args.index.now cs ds c.args.longs.now c.leave_bare.new.longs c.args.placed.rid p c.requires.index c.requires.kept.listed has some c.cut-image.ensures.others
          c.leave_bare.ensures.bare c.leave_bare.ensures.listed);
    }

pub returns-clause-front : goal.returns-clause-front
returns-clause-front c =
    front_keys c.args.index.now c.args.chains.now c.cut-image.new.self c.args.longs.now c.leave_bare.new.longs c.args.placed.rid c.args.placed.place c.requires.kept.listed
    c.requires.has c.leave_bare.ensures.bare c.leave_bare.ensures.listed
