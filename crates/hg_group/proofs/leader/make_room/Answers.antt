use Rattle.hg_group.proofs.Listing.{same_room, set_room}
use Rattle.hg_group.proofs.leader.make_room.Goals as goal

pub returns-in_err-reserve-clause-whole : goal.returns-in_err-reserve-clause-whole
returns-in_err-reserve-clause-whole c = same_room c.args.popped.now.items

pub returns-in_default-clause-whole : goal.returns-in_default-clause-whole
returns-in_default-clause-whole c = same_room c.args.popped.now.items

pub returns-clause-whole : goal.returns-clause-whole
returns-clause-whole c = set_room c.args.popped.now.items c.index_mut.result.now c.reserve_many.new.self c.index_mut.ensures.value c.reserve_many.ensures.same
