use Rattle.hg_exact.proofs.Due.{totals_asked}
use Rattle.hg_exact.proofs.conversations.totals_are_of_the_lines_so_far.Goals as goal

pub returns : goal.returns
returns c = totals_asked
