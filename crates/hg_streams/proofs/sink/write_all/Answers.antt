use Rattle.std.proofs.Common.{arith, length-drop}
use Rattle.std.proofs.lemmas.List.{take_rest}
use Rattle.std.proofs.Math.Seq.{take-add}
use Rattle.hg_streams.proofs.Known.{added_more}
use Rattle.hg_streams.proofs.sink.write_all.Goals as goal

pub loop-at-preserved : goal.loop-at-preserved
loop-at-preserved g c =
    let bound = rw take_rest at c.in_ok-at.ensures.bound in
    let bytes = rw take_rest at c.in_ok-at.ensures.taken in record {
      within = omega (arith, length-drop c.loop-at.at c.args.text.now, bound.0);
      taken = rw take-add (added_more _ _ _ _ _ c.loop-at.invariant.taken bytes);
      later = omega (arith, c.in_ok-at.ensures.cause.later);
    }
