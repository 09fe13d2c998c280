use Rattle.std.proofs.Common.{ℕ, arith, length-append}
use Rattle.std.proofs.lemmas.List.{length-take}
use Rattle.hg_streams.proofs.Known.{gave_more}
use Rattle.hg_streams.proofs.source.read_all.Goals as goal

pub returns-in_err-extend_from_slice-clause-no_more : goal.returns-in_err-extend_from_slice-clause-no_more
returns-in_err-extend_from_slice-clause-no_more g c = record {
  bytes = _;
  gave = gave_more _ _ _ _ _ c.loop-chunk.invariant.gave c.in_ok-count.ensures.given c.in_ok-count.ensures.left.0;
  few = omega (arith, length-append {A = ℕ}, length-take {A = ℕ});
}
