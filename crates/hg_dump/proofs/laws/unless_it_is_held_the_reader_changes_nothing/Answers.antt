use Rattle.hg_dump.proofs.Alone.{sound_alone}
use Rattle.hg_dump.proofs.laws.unless_it_is_held_the_reader_changes_nothing.Goals as goal

pub returns : goal.returns
returns c = sound_alone
