use Rattle.std.proofs.Common.{◌≡◌, List, ◌∷◌, ◌++◌, drop, map, sym, subst}
use Rattle.std.specs.Prelude.{codes}
use Rattle.std.specs.Fmt.{signed_decimal}
use Rattle.std.specs.List.{flat_map}
use Rattle.hg_base.specs.Text.{Field}
use Rattle.hg_records.specs.Bytes.{further_bytes}
use Rattle.hg_transcript.proofs.Backwards.{fields_put}
use Rattle.hg_transcript.proofs.RecordBytes.{numbers_are}
use Rattle.hg_transcript.proofs.usual.put_row.Goals as goal

pub returns-clause-written : goal.returns-clause-written
returns-clause-written c =
    let old = drop c.args.end c.args.bytes.now in
    let now = drop c.put_word.result c.put_word.new.bytes in
    subst (λ (fields : List Field). now ≡ flat_map further_bytes (codes "row" ∷ fields) ++ old) (sym (numbers_are c.args.values.now))
    (fields_put old _ now (codes "row") (map signed_decimal c.args.values.now) c.put_values-after.ensures.written c.put_word.ensures.written)
