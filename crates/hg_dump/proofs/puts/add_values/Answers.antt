use Rattle.std.proofs.Common.{◌<◌, ◌≤◌, ℕ, map, subst}
use Rattle.std.specs.List.{flat_map}
use Rattle.hg_base.specs.Text.{value_field}
use Rattle.hg_records.specs.Bytes.{further_bytes}
use Rattle.hg_dump.proofs.RecordBytes.{next_item, one_more, all_written}
use Rattle.hg_dump.proofs.puts.add_values.Goals as goal

pub loop-i-preserved : goal.loop-i-preserved
loop-i-preserved c =
    let inside = subst (λ (n : ℕ). c.loop-i.i < n) c.len-i-end.ensures.same c.loop-i-test.true in
    let more = next_item value_field c.args.row.now c.loop-i.i c.value.result inside c.value.ensures in
    one_more further_bytes _ _ (value_field c.value.result) c.args.text.now.items c.loop-i.text.items c.add_value.new.text.items more c.loop-i.invariant c.in_ok-add_value.ensures

pub returns : goal.returns
returns c =
    let past = subst (λ (n : ℕ). n ≤ c.loop-i.i) c.len-i-end.ensures.same c.loop-i-test.false in
    all_written (λ l. flat_map further_bytes (map value_field l)) c.args.row.now c.loop-i.i c.args.text.now.items c.loop-i.text.items past c.loop-i.invariant
