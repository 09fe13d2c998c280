use Rattle.std.proofs.Common.{rules}
use Rattle.hg_rule.proofs.Entrance.{fixes}
use Rattle.hg_rule.proofs.board.Board.fix.Goals as goal

pub load-requires : goal.load-requires
load-requires c = (search rules, search rules, fixes _ _ _ _ _ _ c.args.self.now.room c.requires.own.3 c.requires.entered)
