use Rattle.hg_headline.proofs.Replaying.{replay_sound}
use Rattle.hg_headline.proofs.Counting.{replay_whole}
use Rattle.hg_headline.proofs.laws.replay_is_sound.Goals as goal

pub returns-clause-lines : goal.returns-clause-lines
returns-clause-lines c = replay_sound

pub returns-clause-whole : goal.returns-clause-whole
returns-clause-whole c = replay_whole
