use Rattle.std.proofs.Common.{◌<◌, ◌≤◌, length, arith}
use Rattle.hg_chains.proofs.Merges.{pass_one}
use Rattle.hg_chains.proofs.merge.pass_from.Goals as goal

pub loop-left-preserved : goal.loop-left-preserved
loop-left-preserved g c =
    let some : 0 < c.loop-left.left = omega (arith, c.loop-left-test.true) in
    let within : c.loop-left.left ≤ length c.args.snapshots.now = omega (arith, c.requires.within, c.loop-left.invariant.within) in
    record {
      within = omega (arith, c.loop-left.invariant.within);
      passed = pass_one c.args.up c.loop-left.left c.args.snapshots.now some within (omega (arith, c.if-snapshots-left.true)) c.loop-left.invariant.passed;
      cost = omega (arith, c.loop-left.invariant.cost, c.tick.ensures, some);
    }
