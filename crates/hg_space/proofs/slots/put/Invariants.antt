use Rattle.std.proofs.Common.{◌≡◌, take, drop, ◌++◌}
use Rattle.hg_space.specs.Slots.{put_in}
use Rattle.hg_space.proofs.slots.put.Given as goal

abbrev pub invariant-loop-i : goal.invariant-loop-i
invariant-loop-i l = record {
  same : l.bin ≡ l.fn.bin;
  far : take l.i l.fn.bin ++ put_in l.rid l.place (drop l.i l.fn.bin) ≡ put_in l.rid l.place l.fn.bin;
}
