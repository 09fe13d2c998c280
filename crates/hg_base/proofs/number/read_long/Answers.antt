use Rattle.std.proofs.Common.{◌≡◌, true, arith, rules}
use Rattle.hg_base.specs.Number.{is_natural}
use Rattle.hg_base.proofs.Digits.{value-more, is-over}
use Rattle.hg_base.proofs.number.read_long.Goals as goal

pub returns-then-value-digit : goal.returns-then-value-digit
returns-then-value-digit c =
    let h : is_natural c.args.text.now ≡ true = search rules in
    is-over c.args.text.now c.loop-c.c-index c.loop-c.value h c.loop-c-test.true c.loop-c.invariant c.if-value-digit.true

pub loop-c-preserved : goal.loop-c-preserved
loop-c-preserved c =
    let h : is_natural c.args.text.now ≡ true = search rules in
    omega (arith, value-more c.args.text.now c.loop-c.c-index h c.loop-c-test.true, c.loop-c.invariant)
