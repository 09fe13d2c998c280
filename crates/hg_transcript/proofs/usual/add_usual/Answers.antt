use Rattle.std.proofs.Common.{◌≡◌, ◌≤◌, ◌∙◌, ◌++◌, length, rules, ap, arith, refl}
use Rattle.std.proofs.lemmas.Fmt.{length-decimal-le}
use Rattle.std.proofs.lemmas.Slice.{between_to_end}
use Rattle.std.specs.Prelude.{decimal}
use Rattle.hg_transcript.proofs.Backwards.{alone_put, record_put}
use Rattle.hg_transcript.proofs.usual.add_usual.Goals as goal

pub put_number-after-requires : goal.put_number-after-requires
put_number-after-requires c =
    let long : length c.put_reply.new.bytes ≡ 192 = search rules in
    (omega (arith, c.in-Some.ensures.near), omega (arith, c.in-Some.ensures.within, long))

pub write_digits-start-requires : goal.write_digits-start-requires
write_digits-start-requires c =
    let long : length c.put_number-after.new.bytes ≡ 192 = search rules in (
      omega (arith, c.in-Some.ensures.near, c.put_number-after.ensures.near, length-decimal-le 20 c.from.result (omega arith) (omega arith) (omega arith)),
      omega (arith, c.in-Some.ensures.within, c.put_number-after.ensures.within, long),
    )

pub returns-clause-usual : goal.returns-clause-usual
returns-clause-usual c = λ tables is.
    let old = c.args.text.now.items in
    let w = c.write_digits-start in
    let long : length w.new.buf ≤ 192 = search rules in
    alone_put old _ _ _ _ c.in-Some.ensures.alone
    (record_put old _ _ _ _ _ c.args.line.now.session (decimal c.args.line.now.place) _ refl (c.in-Some.ensures.written tables) c.put_number-after.ensures.written
    (rw c.from.ensures at w.ensures.written) (c.in_ok-extend_from_slice.ensures.items ∙ ap (λ t. old ++ t) (between_to_end w.new.buf w.result 192 long)))
