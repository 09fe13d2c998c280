use Rattle.std.proofs.Common.{◌≡◌, ℕ, ◌+◌, ◌-◌, vec_len}
use Rattle.hg_chains.specs.Landmarks.{landmarks_of}
use Rattle.hg_chains.proofs.landmarks.Landmarks.begin.Given as goal

abbrev pub invariant-loop-self : goal.invariant-loop-self
invariant-loop-self l = (q : ℕ) → landmarks_of l.self q ≡ landmarks_of l.fn.self q

abbrev pub decreases-loop-self : goal.decreases-loop-self
decreases-loop-self l = l.place + 1 - vec_len l.self.lists
