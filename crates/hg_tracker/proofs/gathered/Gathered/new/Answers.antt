use Rattle.std.proofs.Common.{refl}
use Rattle.hg_tracker.proofs.gathered.Gathered.new.Goals as goal

pub returns : goal.returns
returns c = (
  refl,
  c.in_ok-lists.ensures.count,
  c.requires,
  c.in_ok-with_capacity.ensures.capacity,
  c.in_ok-with_capacity-2.ensures.capacity,
  c.in_ok-lists.ensures.room,
  c.in_ok-with_capacity-3.ensures.capacity,
  c.in_ok-with_capacity-4.ensures.capacity,
  λ e. c.in_ok-lists.ensures.empty,
)
