use Rattle.std.proofs.Common.{length, ◌<◌, rules}
use Rattle.hg_space.specs.Slots.{without}
use Rattle.hg_space.proofs.TableFacts.{mapped_at}
use Rattle.hg_space.proofs.slots.take_out.Goals as goal

pub loop-i-preserved : goal.loop-i-preserved
loop-i-preserved c =
    let k = c.loop-i.invariant in
    let within : c.loop-i.i < length c.args.bin.now = search rules in
    record {
      gap = k.gap;
      far = mapped_at (without c.has_gap-gap.result c.args.rid) c.loop-i.bin c.args.bin.now c.loop-i.i _ _ within c.without.ensures k.far;
    }
