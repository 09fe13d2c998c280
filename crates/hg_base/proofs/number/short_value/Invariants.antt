use Rattle.hg_base.proofs.Digits.{AreRead}
use Rattle.hg_base.proofs.number.short_value.Given as goal

abbrev pub invariant-loop-c : goal.invariant-loop-c
invariant-loop-c l = AreRead l.text l.c-index l.value
