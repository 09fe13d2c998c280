use Rattle.std.proofs.Common.{◌≤◌, ◌∙◌, ◌++◌, length, rules, ap, arith}
use Rattle.std.proofs.lemmas.Fmt.{length-decimal-le}
use Rattle.std.proofs.lemmas.Slice.{between_to_end}
use Rattle.hg_transcript.proofs.Backwards.{begin_put}
use Rattle.hg_transcript.proofs.bytes.begin_reply.Goals as goal

pub write_digits-start-requires : goal.write_digits-start-requires
write_digits-start-requires c = (omega (arith, length-decimal-le 20 c.from.result (omega arith) (omega arith) (omega arith)), search rules)

pub returns : goal.returns
returns c =
    let w = c.write_digits-start in
    let long : length w.new.buf ≤ 44 = search rules in
    begin_put c.args.text.now.items _ c.args.session c.args.place _ _ c.put_number-after.ensures.written (rw c.from.ensures at w.ensures.written)
    (c.in_ok-extend_from_slice.ensures.items ∙ ap (λ t. c.args.text.now.items ++ t) (between_to_end w.new.buf w.result 44 long))
