use Rattle.std.proofs.lemmas.Result.{on_ok_weaker}
use Rattle.hg_transcript.proofs.RecordBytes.{ended}
use Rattle.hg_transcript.proofs.record.write_row.Goals as goal

pub returns : goal.returns
returns c = on_ok_weaker c.end_record.result (ended _ _ _ _ _ _ _ c.in_ok-begin_reply.ensures c.in_ok-add_key.ensures) c.end_record.ensures.added
