use Rattle.hg_headline.proofs.Rounds.{run_sound}
use Rattle.hg_headline.proofs.Counting.{run_whole}
use Rattle.hg_headline.proofs.laws.run_is_sound.Goals as goal

pub returns-clause-lines : goal.returns-clause-lines
returns-clause-lines c = run_sound

pub returns-clause-whole : goal.returns-clause-whole
returns-clause-whole c = run_whole
