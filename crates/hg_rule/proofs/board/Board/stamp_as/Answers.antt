use Rattle.std.proofs.Common.{rules}
use Rattle.hg_rule.proofs.Stamps.{may_stamp}
use Rattle.hg_rule.proofs.board.Board.stamp_as.Goals as goal

pub load-requires : goal.load-requires
load-requires g c = (
  search rules,
  search rules,
  may_stamp _ _ _ _ _ _ c.requires.own.3 c.requires.held.0 c.requires.received.0 c.requires.received.1 c.requires.plain
      c.requires.held.1 c.requires.mine,
)
