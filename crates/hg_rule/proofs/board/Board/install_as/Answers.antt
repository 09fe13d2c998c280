use Rattle.std.proofs.Common.{rules}
use Rattle.hg_rule.proofs.Works.{installs}
use Rattle.hg_rule.proofs.board.Board.install_as.Goals as goal

pub load-requires : goal.load-requires
load-requires g c = (
  search rules,
  search rules,
  installs _ _ _ _ _ _ c.requires.own.3 c.requires.live c.requires.plain c.requires.unstamped c.requires.held.0 c.requires.held.1
      c.requires.table.0 c.requires.table.1 c.requires.room c.requires.free,
)
