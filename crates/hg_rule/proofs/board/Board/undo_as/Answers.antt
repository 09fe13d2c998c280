use Rattle.std.proofs.Common.{rules}
use Rattle.hg_rule.proofs.Works.{undoes}
use Rattle.hg_rule.proofs.board.Board.undo_as.Goals as goal

pub load-requires : goal.load-requires
load-requires g c = (search rules, search rules, undoes _ _ _ _ _ c.requires.own.3 c.requires.unstamped c.requires.held.0 c.requires.held.1 c.requires.mine)
