use Rattle.std.proofs.Common.{rules}
use Rattle.hg_rule.proofs.Commits.{takes}
use Rattle.hg_rule.proofs.board.Board.take_group.Goals as goal

pub load-requires : goal.load-requires
load-requires c = (search rules, search rules, takes _ _ _ _ c.args.self.now.room c.requires.own.1 c.requires.held c.requires.left)
