use Rattle.hg_dump.proofs.Examples.{alone_refused, held_sound, moved_refused, other_refused}
use Rattle.hg_dump.proofs.worked.a_held_reader_is_sound_with_its_lines.Goals as goal

pub returns-clause-held : goal.returns-clause-held
returns-clause-held c = held_sound

pub returns-clause-alone : goal.returns-clause-alone
returns-clause-alone c = alone_refused

pub returns-clause-other : goal.returns-clause-other
returns-clause-other c = other_refused

pub returns-clause-moved : goal.returns-clause-moved
returns-clause-moved c = moved_refused
