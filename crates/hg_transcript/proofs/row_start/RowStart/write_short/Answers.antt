use Rattle.std.proofs.Common.{◌≡◌, ◌∙◌, ◌≤◌, List, ◌∷◌, ◌++◌, length, map, ap, refl, rules, subst, sym}
use Rattle.std.proofs.lemmas.Slice.{between_to_end}
use Rattle.std.specs.Prelude.{codes, decimal}
use Rattle.std.specs.Fmt.{signed_decimal}
use Rattle.hg_base.specs.Text.{Field}
use Rattle.hg_records.specs.Bytes.{record_bytes}
use Rattle.hg_transcript.proofs.Backwards.{row_put}
use Rattle.hg_transcript.proofs.RecordBytes.{numbers_are}
use Rattle.hg_transcript.proofs.row_start.RowStart.write_short.Goals as goal

pub returns : goal.returns
returns c =
    let old = c.args.text.now.items in
    let start = c.put-start in
    let long : length start.new.bytes ≤ 128 = search rules in
    let session = c.args.self.now.session in
    let place = c.args.self.now.place in
    let numbers = c.args.values.now in
    subst (λ (fields : List Field). c.extend_from_slice.new.self.items ≡ old ++ record_bytes (decimal session ∷ decimal place ∷ codes "row" ∷ decimal c.args.key ∷ fields)) (sym (numbers_are numbers))
    (row_put old _ _ _ _ _ (decimal session) (decimal place) (codes "row") (decimal c.args.key) (map signed_decimal numbers)
    refl c.put_values-after.ensures.written c.put_number-after.ensures.written start.ensures.written
    (c.in_ok-extend_from_slice.ensures.items ∙ ap (λ t. old ++ t) (between_to_end start.new.bytes start.result 128 long)))
