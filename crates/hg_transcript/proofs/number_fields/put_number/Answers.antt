use Rattle.std.proofs.Common.{◌≡◌, ◌+◌, ◌-◌, arith, rules}
use Rattle.std.proofs.lemmas.Fmt.{length-decimal-le}
use Rattle.std.proofs.lemmas.List.{drop-set}
use Rattle.hg_transcript.proofs.Backwards.{number_is}
use Rattle.hg_transcript.proofs.number_fields.put_number.Goals as goal

pub write_digits-start-requires : goal.write_digits-start-requires
write_digits-start-requires c = (omega (arith, length-decimal-le 20 c.args.n (omega arith) (omega arith) (omega arith)), search rules)

pub overflow_sub-bytes : goal.overflow_sub-bytes
overflow_sub-bytes c = omega (arith, length-decimal-le 20 c.args.n (omega arith) (omega arith) (omega arith))

pub overflow_sub-result : goal.overflow_sub-result
overflow_sub-result c = omega (arith, length-decimal-le 20 c.args.n (omega arith) (omega arith) (omega arith))

pub returns-clause-written : goal.returns-clause-written
returns-clause-written c =
    let w = c.write_digits-start in
    let long = length-decimal-le 20 c.args.n (omega arith) (omega arith) (omega arith) in
    let e : w.result - 1 + 1 ≡ w.result = omega arith in
    rw (drop-set w.new.buf (w.result - 1) 44 (omega arith), e, w.ensures.written, number_is c.args.n)

pub returns-clause-near : goal.returns-clause-near
returns-clause-near c = omega (arith, length-decimal-le 20 c.args.n (omega arith) (omega arith) (omega arith))
