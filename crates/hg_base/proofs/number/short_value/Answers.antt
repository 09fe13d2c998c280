use Rattle.std.proofs.Common.{◌≡◌, ◌≤◌, true, get_or, length, arith, refl, rules}
use Rattle.hg_base.specs.Number.{is_digit}
use Rattle.hg_base.proofs.Digits.{between, read_more, room_left}
use Rattle.hg_base.proofs.number.short_value.Goals as goal

pub overflow_mul-value : goal.overflow_mul-value
overflow_mul-value c =
    let few : length c.args.text.now ≤ 19 = c.requires in
    omega (arith, room_left c.args.text.now c.loop-c.c-index c.loop-c.value c.loop-c-test.true few c.loop-c.invariant)

pub overflow_add-value : goal.overflow_add-value
overflow_add-value c =
    let few : length c.args.text.now ≤ 19 = c.requires in
    let h : is_digit (get_or c.args.text.now c.loop-c.c-index 0) ≡ true = search rules in
    let d = between (get_or c.args.text.now c.loop-c.c-index 0) h in
    omega (arith, d.high, room_left c.args.text.now c.loop-c.c-index c.loop-c.value c.loop-c-test.true few c.loop-c.invariant)

pub loop-c-preserved : goal.loop-c-preserved
loop-c-preserved c =
    let h : is_digit (get_or c.args.text.now c.loop-c.c-index 0) ≡ true = search rules in
    let d = between (get_or c.args.text.now c.loop-c.c-index 0) h in
    read_more c.args.text.now c.loop-c.c-index c.loop-c.value _ _ c.loop-c-test.true refl d.low d.high refl c.loop-c.invariant
