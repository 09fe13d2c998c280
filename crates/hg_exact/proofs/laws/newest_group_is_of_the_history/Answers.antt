use Rattle.hg_exact.proofs.Newest.{newest_there}
use Rattle.hg_exact.proofs.laws.newest_group_is_of_the_history.Goals as goal

pub returns : goal.returns
returns c = newest_there
