use Rattle.hg_dump.proofs.Restored.{text_again}
use Rattle.hg_dump.proofs.restore.a_replay_of_a_dump_text_restores_it.Goals as goal

pub returns : goal.returns
returns c = text_again
