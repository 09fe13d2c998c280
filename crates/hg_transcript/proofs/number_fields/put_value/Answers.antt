use Rattle.std.proofs.Common.{◌≡◌, ◌+◌, ◌-◌, arith, to_z-of_z}
use Rattle.std.proofs.lemmas.List.{drop-set}
use Rattle.hg_transcript.proofs.Backwards.{value_is}
use Rattle.hg_transcript.proofs.number_fields.put_value.Goals as goal

pub returns-clause-written : goal.returns-clause-written
returns-clause-written c =
    let w = c.put_signed-start in
    let e : w.result - 1 + 1 ≡ w.result = omega arith in
    let back = to_z-of_z c.ranges.n in
    rw (drop-set w.new.bytes (w.result - 1) 44 (omega arith), e, w.ensures.written, back, value_is c.args.n)
