use Rattle.std.proofs.Common.{◌≤◌, length, rules}
use Rattle.hg_transcript.proofs.Backwards.{field_put}
use Rattle.hg_transcript.proofs.bytes.add_number.Goals as goal

pub returns : goal.returns
returns c =
    let long : length c.put_number-start.new.bytes ≤ 22 = search rules in
    field_put _ _ _ _ c.put_number-start.result 22 long c.put_number-start.ensures.written c.in_ok-extend_from_slice.ensures.items
