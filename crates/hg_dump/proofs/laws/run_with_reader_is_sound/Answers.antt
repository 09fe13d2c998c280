use Rattle.hg_dump.proofs.Runs.{sound_with}
use Rattle.hg_dump.proofs.laws.run_with_reader_is_sound.Goals as goal

pub returns : goal.returns
returns c = sound_with
