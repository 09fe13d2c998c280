use Rattle.std.proofs.Common.{rules}
use Rattle.hg_rule.proofs.Records.{marks}
use Rattle.hg_rule.proofs.board.Board.mark.Goals as goal

pub load-requires : goal.load-requires
load-requires c = (search rules, search rules, marks _ _ _ _ c.args.self.now.room c.requires.own.1)
