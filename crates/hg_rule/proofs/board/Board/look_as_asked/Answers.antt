use Rattle.std.proofs.Common.{rules}
use Rattle.hg_rule.proofs.Looks.{asks}
use Rattle.hg_rule.proofs.board.Board.look_as_asked.Goals as goal

pub load-requires : goal.load-requires
load-requires g c = (search rules, search rules, asks _ _ _ _ _ _ c.requires.picked c.args.self.now.room c.requires.own.3 c.requires.live c.requires.plain c.requires.unstamped c.requires.asks)
