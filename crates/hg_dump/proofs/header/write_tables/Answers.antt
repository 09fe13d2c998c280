use Rattle.std.proofs.Common.{map}
use Rattle.std.specs.List.{flat_map}
use Rattle.hg_records.specs.Bytes.{record_bytes}
use Rattle.hg_dump.specs.Records.{table_fields}
use Rattle.hg_dump.proofs.RecordBytes.{next_item, one_more, all_written}
use Rattle.hg_dump.proofs.header.write_tables.Goals as goal

pub loop-table-preserved : goal.loop-table-preserved
loop-table-preserved c =
    let fields = table_fields c.args.version in
    let table = c.table-item.result in
    let more = next_item fields c.args.tables.now c.loop-table.table-index table c.loop-table-test.true c.table-item.is in
    one_more record_bytes _ _ (fields table) c.args.text.now.items c.loop-table.text.items c.write_table.new.text.items more c.loop-table.invariant c.in_ok-write_table.ensures

pub returns : goal.returns
returns c =
    all_written (λ l. flat_map record_bytes (map (table_fields c.args.version) l)) c.args.tables.now c.loop-table.table-index c.args.text.now.items c.loop-table.text.items
    c.loop-table-test.false c.loop-table.invariant
