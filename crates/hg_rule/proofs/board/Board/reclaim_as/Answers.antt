use Rattle.std.proofs.Common.{rules}
use Rattle.hg_rule.proofs.Reclaims.{reclaims}
use Rattle.hg_rule.proofs.board.Board.reclaim_as.Goals as goal

pub load-requires : goal.load-requires
load-requires g c = (search rules, search rules, reclaims _ _ _ _ _ _ c.requires.own.1 c.requires.whole c.requires.held.0 c.requires.held.1 c.requires.visits)
