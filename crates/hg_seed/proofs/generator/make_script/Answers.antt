use Rattle.std.proofs.Common.{arith}
use Rattle.hg_seed.proofs.Made.{making-more, making-none}
use Rattle.hg_seed.proofs.generator.make_script.Goals as goal

pub loop-i-init : goal.loop-i-init
loop-i-init c = record {
  making = rw (c.new-draws.ensures, c.in_ok-script.ensures) (making-none c.args.seed);
  known = rw c.in_ok-script.ensures c.new-sessions.ensures.0;
}

pub loop-i-preserved : goal.loop-i-preserved
loop-i-preserved c =
    let more = making-more c.args.seed c.loop-i.i c.loop-i.draws c.loop-i.script c.loop-i.invariant.making (omega (arith, c.loop-i-test.true)) in
    let added = c.in_ok-add_drawn.ensures in record {
      making = rw (added.script, added.state) more;
      known = added.known;
    }
