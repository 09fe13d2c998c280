-- Tests of one answer.
use Rattle.std.proofs.Common.{◌≡◌, false, true, refl}
use Rattle.std.specs.Prelude.{Bool, not}
use mathlib.Core.Bool.{beq}

pub same_of : (a b : Bool) → not (beq a b) ≡ false → a ≡ b
same_of true true e = refl
same_of true false e = cc
same_of false true e = cc
same_of false false e = refl
