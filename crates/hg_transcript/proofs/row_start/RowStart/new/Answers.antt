use Rattle.std.proofs.Common.{◌∙◌, arith, rules, refl, replicate, append-nil}
use Rattle.std.proofs.lemmas.Fmt.{length-decimal-le}
use Rattle.hg_transcript.proofs.Backwards.{put_tail, start_put}
use Rattle.hg_transcript.proofs.row_start.RowStart.new.Goals as goal

pub write_digits-from-requires : goal.write_digits-from-requires
write_digits-from-requires c = (omega (arith, length-decimal-le 20 c.from.result (omega arith) (omega arith) (omega arith)), search rules)

pub invariant_of-result : goal.invariant_of-result
invariant_of-result c =
    let word = c.copy_from_slice.ensures.after in
    record {
      begun = (
        omega arith,
        start_put c.args.session c.args.place _ _ _ (put_tail (replicate 48 0) c.copy_from_slice.new.self 44 4 0 48 refl c.copy_from_slice.ensures.len (omega arith) (omega arith) ∙
            append-nil _ ∙ word) c.put_number-after.ensures.written (rw c.from.ensures at c.write_digits-from.ensures.written),
      );
    }
