use Rattle.std.proofs.Common.{◌≤◌, length, rules, to_z-of_z}
use Rattle.hg_transcript.proofs.Backwards.{field_put}
use Rattle.hg_transcript.proofs.bytes.add_value.Goals as goal

pub returns : goal.returns
returns c =
    let long : length c.put_value-start.new.bytes ≤ 22 = search rules in
    field_put _ _ _ _ c.put_value-start.result 22 long (rw (to_z-of_z c.ranges.n) at c.put_value-start.ensures.written) c.in_ok-extend_from_slice.ensures.items
