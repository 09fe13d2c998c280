use Rattle.std.proofs.Common.{ℕ, List, [], ◌∷◌, ◌++◌, ◌∙◌, ap, map, take}
use Rattle.std.proofs.lemmas.List.{map-append}
use Rattle.std.specs.List.{flat_map}
use Rattle.std.specs.Prelude.{codes, decimal}
use Rattle.hg_base.specs.declared.value.Value.{Value}
use Rattle.hg_base.specs.Text.{Field, value_field}
use Rattle.hg_records.specs.Bytes.{record_bytes}
use Rattle.hg_dump.specs.Records.{put_fields}
use Rattle.hg_dump.specs.Rows.{Kept, kept_in}
use Rattle.hg_dump.proofs.RecordBytes.{next_item, one_more, all_written}
use Rattle.hg_dump.proofs.puts.write_puts.Goals as goal

pub loop-key-preserved : goal.loop-key-preserved
loop-key-preserved c =
    let kept : ℕ × List Value → Kept = λ p. record { rid = record { table = c.args.table; key = p.0 }; row = p.1 } in
    let put = put_fields c.args.tables.now in
    let item = c.loop-key-item.result in
    let row = next_item kept c.args.rows.now c.loop-key.key-index item c.loop-key-test.true c.loop-key-item.is in
    let more = ap (map put) row ∙ map-append put (map kept (take c.loop-key.key-index c.args.rows.now)) (kept item ∷ []) in
    let named = ap (λ (name : Field). c.loop-key.text.items ++ record_bytes (codes "1" ∷ codes "put" ∷ name ∷ decimal item.0 ∷ map value_field item.1)) c.name_of-name.ensures in
    one_more record_bytes _ _ (put (kept item)) c.args.text.now.items c.loop-key.text.items c.write_put.new.text.items more c.loop-key.invariant (c.in_ok-write_put.ensures ∙ named)

pub returns : goal.returns
returns c =
    all_written (λ l. flat_map record_bytes (map (put_fields c.args.tables.now) (kept_in c.args.table l))) c.args.rows.now c.loop-key.key-index c.args.text.now.items c.loop-key.text.items
    c.loop-key-test.false c.loop-key.invariant
