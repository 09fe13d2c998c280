use Rattle.hg_audit.proofs.Shaping.{Fit}
use Rattle.hg_audit.proofs.shape.first_out_of_shape.Given as goal

abbrev pub invariant-loop-k : goal.invariant-loop-k
invariant-loop-k l = Fit l.records l.lines l.k
