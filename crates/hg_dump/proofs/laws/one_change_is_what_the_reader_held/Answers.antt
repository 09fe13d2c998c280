use Rattle.hg_dump.proofs.Alone.{sound_but}
use Rattle.hg_dump.proofs.laws.one_change_is_what_the_reader_held.Goals as goal

pub returns : goal.returns
returns c = sound_but
