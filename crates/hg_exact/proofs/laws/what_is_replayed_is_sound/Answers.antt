use Rattle.hg_exact.proofs.Itself.{itself_sound}
use Rattle.hg_exact.proofs.Sound.{replayed_sound}
use Rattle.hg_exact.proofs.laws.what_is_replayed_is_sound.Goals as goal

pub returns-clause-lines : goal.returns-clause-lines
returns-clause-lines c = replayed_sound

pub returns-clause-itself : goal.returns-clause-itself
returns-clause-itself c = itself_sound
